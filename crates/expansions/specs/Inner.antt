pub mod Charges
pub mod Leading
pub mod Planes
pub mod KroneckerWalk
pub mod Answer
pub mod KroneckerAnswer
