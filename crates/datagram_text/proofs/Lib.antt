pub mod Printing
pub mod Joining
pub mod OneText
pub mod OneLine
pub mod OneCourse
