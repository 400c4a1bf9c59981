pub mod Latest
pub mod Marked
pub mod Inner
