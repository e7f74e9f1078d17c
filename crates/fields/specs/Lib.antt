pub mod Fields
pub mod Cubes
