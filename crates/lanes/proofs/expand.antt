pub mod Held
pub mod LaidOut
pub mod Laying
pub mod Room
pub mod Turning
