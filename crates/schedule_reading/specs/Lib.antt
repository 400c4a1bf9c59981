pub mod Fault
pub mod Entry
pub mod Stage
pub mod Transcript
pub mod Schedule
pub mod Verdict
pub mod Inner
