pub mod Quoted
pub mod Printed
