pub mod Used
pub mod Sums
pub mod FirstTerms
pub mod SumsRead
pub mod Choices
pub mod Weighed
pub mod BlockCosts
pub mod OtherBlocks
