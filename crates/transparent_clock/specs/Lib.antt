pub mod Forwarding
pub mod Refusal
