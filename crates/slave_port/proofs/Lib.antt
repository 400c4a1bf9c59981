pub mod Options
mod Completions
mod Requests
mod Stands
mod Received
mod Messages
mod Examples
pub mod Uses
mod Reported
