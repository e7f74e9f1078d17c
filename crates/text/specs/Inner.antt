pub mod Compiled
pub mod Printed
