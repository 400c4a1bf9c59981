pub mod Events
pub mod Faults
pub mod Entered
pub mod OneInput
pub mod Read
pub mod AsRead
pub mod Numbered
