pub mod Going
pub mod InFront
pub mod Inputs
pub mod Failing
