pub mod Judging
pub mod Words
pub mod Meaning
