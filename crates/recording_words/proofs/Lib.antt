pub mod Listing
pub mod Parted
pub mod Between
