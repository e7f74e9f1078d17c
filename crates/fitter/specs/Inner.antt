pub mod Differences
pub mod Judging
pub mod Answer
pub mod Printed
