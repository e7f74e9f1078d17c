pub mod Explained
pub mod Told
