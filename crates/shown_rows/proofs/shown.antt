pub mod Counting
pub mod Blocks
pub mod Bytes
pub mod Mapped
