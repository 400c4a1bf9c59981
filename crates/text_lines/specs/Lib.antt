pub mod Broken
pub mod Counted
pub mod Fault
pub mod OctetReader
pub mod Lines
pub mod Task
pub mod Inner
