pub mod Appended
pub mod Listed
pub mod Plain
pub mod Spelled
pub mod Texts
