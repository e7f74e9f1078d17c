pub mod LaidOut
pub mod Lanes
pub mod Sizes
pub mod Terms
