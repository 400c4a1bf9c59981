mod Counts
mod Tables
pub mod Worked
mod Captured
