pub mod Outputs
pub mod Judging
pub mod IsTable
