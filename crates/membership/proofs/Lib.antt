pub mod Cubes
pub mod Shown
pub mod Class
pub mod FreeClass
