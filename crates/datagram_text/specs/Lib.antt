pub mod Shown
pub mod Show
