pub mod Compile
pub mod Print
pub mod Inner
pub mod Judged
