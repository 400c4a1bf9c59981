mod SaidReadings
mod LineReadings
mod LineTakings
mod PacketTakings
mod Inputs
mod Lefts
pub mod LeftAs
pub mod OneCourse
pub mod Streams
