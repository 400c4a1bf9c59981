pub mod Delays
pub mod Turns
pub mod Kept
pub mod Exactly
mod Worked
