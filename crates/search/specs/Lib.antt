pub mod Expansion
pub mod Found
pub mod Inner
