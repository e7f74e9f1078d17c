pub mod Choices
pub mod FewerPins
pub mod WiderFields
pub mod DashField
