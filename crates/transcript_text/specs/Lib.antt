pub mod Fault
pub mod Answer
pub mod Replay
pub mod CheckText
pub mod Accepted
pub mod OneAnswer
pub mod Inner
