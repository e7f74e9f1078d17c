pub mod Found
pub mod Searched
