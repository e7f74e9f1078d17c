pub mod Letters
pub mod Steps
pub mod Costs
pub mod Answers
