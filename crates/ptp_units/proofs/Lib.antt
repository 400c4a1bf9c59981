pub mod LongDivision
pub mod ExactDecimals
pub mod Worked
