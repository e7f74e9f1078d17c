pub mod Terms
pub mod Coefficients
pub mod Expand
pub mod Transform
pub mod Inner
