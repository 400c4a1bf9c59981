pub mod Figures
pub mod Measurements
pub mod FullMeasurements
pub mod ReadBack
pub mod AsChecked
pub mod Unread
pub mod Worked
pub mod WorkedMeasurement
mod WorkedOctets
