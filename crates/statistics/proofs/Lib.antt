mod Kept
mod Worked
mod InOrder
pub mod Counts
mod Rounding
