pub mod Inner
pub mod Spelled
