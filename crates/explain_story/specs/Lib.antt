pub mod Report
pub mod Counts
pub mod Inner
