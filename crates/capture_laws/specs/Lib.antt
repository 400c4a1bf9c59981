pub mod Writing
pub mod OneCourse
pub mod Called
