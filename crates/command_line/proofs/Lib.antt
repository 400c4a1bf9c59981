pub mod Tables
pub mod RowOptions
pub mod Invocations
pub mod WorkedWords
pub mod TapTexts
