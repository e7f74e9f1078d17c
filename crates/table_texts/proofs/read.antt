pub mod Steps
pub mod Accepted
pub mod Words
