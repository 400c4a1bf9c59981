pub mod Refusal
pub mod Transcript
pub mod Exchange
pub mod Message
pub mod KeptLine
pub mod Evidence
pub mod Inner
