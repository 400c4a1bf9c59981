pub mod TapName
pub mod Sides
pub mod Known
pub mod Inner
