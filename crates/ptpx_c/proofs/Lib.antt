pub mod Decoded
pub mod Parts
pub mod Ports
pub mod Sent
pub mod Slaves
pub mod Watches
