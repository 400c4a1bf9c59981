pub mod FirstFour
pub mod Next
pub mod NextHeader
pub mod NextStart
pub mod NextOptions
pub mod NextBlock
pub mod OneReading
pub mod OneAnswer
pub mod Writing
pub mod WritingBlocks
pub mod WritingSections
pub mod Called
mod Worked
