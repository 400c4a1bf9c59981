mod Found
mod Links
pub mod Lists
mod Pairs
mod Rings
mod Walks
mod Worked
pub mod Laws
