pub mod Parts
pub mod Division
pub mod Shown
pub mod Digits
pub mod Worked
pub mod Times
pub mod Orders
mod Means
pub mod Verdicts
pub mod Alike
pub mod InOrder
mod Filters
