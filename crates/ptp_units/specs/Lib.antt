pub mod Moment
pub mod Interval
pub mod Sequence
pub mod Exchange
pub mod Refusal
pub mod Nanoseconds
