pub mod Task
pub mod Front
