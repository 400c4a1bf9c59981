pub mod Judged
pub mod Details
pub mod Judgements
pub mod Explained
pub mod Inner
