pub mod Design
pub mod First
pub mod Read
pub mod Accepted
pub mod TableTexts
pub mod Refusals
pub mod Inner
