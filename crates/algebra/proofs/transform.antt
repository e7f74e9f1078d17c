pub mod Runs
pub mod Halves
pub mod Inputs
pub mod Filling
