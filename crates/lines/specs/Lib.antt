pub mod Rows
pub mod FirstBad
pub mod Inner
