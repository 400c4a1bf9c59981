pub mod Written
pub mod Port
pub mod Refusal
