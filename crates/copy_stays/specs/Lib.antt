pub mod Leaves
pub mod Stays
pub mod Inner
