pub mod LineReading
pub mod Outcomes
