pub mod Measurements
pub mod FullMeasurements
pub mod ReadBack
pub mod AsChecked
pub mod Unread
