pub mod Choices
pub mod Texts
pub mod Examples
pub mod FewerPins
pub mod WiderFields
pub mod DashField
