pub mod Bounded
pub mod Quotients
