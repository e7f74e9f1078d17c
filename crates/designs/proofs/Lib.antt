pub mod Designs
pub mod Outputs
