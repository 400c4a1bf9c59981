pub mod State
pub mod Turns
pub mod Exact
pub mod Obstacle
pub mod Inner
