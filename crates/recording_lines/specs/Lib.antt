pub mod Timed
pub mod Measurement
