pub mod Choice
mod Worked
pub mod Records
pub mod Walk
pub mod Sound
pub mod Left
pub mod Front
pub mod Writing
