pub mod Number
pub mod Taking
pub mod Learned
pub mod OfKind
