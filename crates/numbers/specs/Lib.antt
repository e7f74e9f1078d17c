pub mod Tests
pub mod Bits
pub mod Bytes
pub mod Sums
pub mod Refusals
pub mod Words
pub mod Nonzero
