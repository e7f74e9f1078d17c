pub mod Sentences
pub mod Causes
pub mod PrintedRefusal
