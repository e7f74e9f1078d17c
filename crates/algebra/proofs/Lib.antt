pub mod Terms
pub mod Value
pub mod Inside
pub mod Coefficients
pub mod Expand
pub mod HalfSteps
pub mod Turned
pub mod Lanes
