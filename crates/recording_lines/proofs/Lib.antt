pub mod Times
pub mod SpelledTimes
pub mod Worked
