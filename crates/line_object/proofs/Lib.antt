pub mod Numbers
pub mod Scalars
pub mod Items
pub mod Keys
pub mod Members
pub mod Documents
