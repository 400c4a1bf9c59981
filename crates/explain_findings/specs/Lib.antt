pub mod Broken
pub mod Found
pub mod Heard
pub mod Known
pub mod Mispaired
pub mod Misplaced
pub mod Misread
pub mod OtherMaster
