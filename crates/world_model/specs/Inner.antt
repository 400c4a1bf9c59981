-- What serves functions inside this crate, views, invariants and proofs alone. No contract of a public call rests on it, so
-- nobody has to believe it.
pub mod Acts
pub mod Kept
pub mod Sought
pub mod Stands
pub mod Steps
