pub mod Said
pub mod Stream
pub mod Datagram
pub mod Unread
pub mod Rules
pub mod Input
pub mod Left
pub mod Inner
