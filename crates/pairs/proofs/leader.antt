pub mod Charging
pub mod Leading
pub mod Trying
