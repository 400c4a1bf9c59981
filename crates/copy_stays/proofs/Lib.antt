pub mod Stretches
pub mod CopyStates
pub mod Cutting
pub mod Links
pub mod Kept
