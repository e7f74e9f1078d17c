pub mod Lengths
pub mod Listable
pub mod Stops
