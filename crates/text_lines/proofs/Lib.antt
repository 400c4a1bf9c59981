pub mod KnownOctets
pub mod ReadAhead
pub mod Cutting
pub mod Reading
pub mod Bounds
pub mod TakenLines
pub mod OneAnswer
pub mod Unwritten
