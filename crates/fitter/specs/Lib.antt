pub mod Differences
pub mod Check
pub mod Print
pub mod Inner
pub mod AnswerLine
