pub mod Needed
pub mod Sound
pub mod Truth
