pub mod Layout
pub mod Record
pub mod Tlv
pub mod Packet
pub mod Refusal
pub mod EncodeRefusal
pub mod Written
pub mod Inner
