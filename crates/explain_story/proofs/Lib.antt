pub mod Counted
pub mod Told
