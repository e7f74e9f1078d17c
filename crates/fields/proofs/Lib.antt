pub mod Numbers
pub mod Digits
pub mod Written
pub mod FieldsRead
pub mod Cubes
pub mod Headed
pub mod Library
