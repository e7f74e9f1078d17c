pub mod Parts
pub mod Listing
pub mod Kronecker
pub mod Meaning
pub mod AnswerListing
pub mod Inner
