pub mod Exact
pub mod Delays
pub mod Seconds
pub mod Verdict
pub mod Inner
