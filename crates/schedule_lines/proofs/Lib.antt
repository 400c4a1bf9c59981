pub mod Compact
pub mod Digits
pub mod Keys
pub mod Lookup
pub mod ReadBack
pub mod Texts
pub mod Names
pub mod Nodes
pub mod Printed
pub mod Ranges
pub mod OneText
pub mod OwnKeys
pub mod OwnLines
pub mod ToldTags
pub mod ToldLines
pub mod ShownTexts
pub mod LineTexts
pub mod Values
mod Asked
mod Traced
