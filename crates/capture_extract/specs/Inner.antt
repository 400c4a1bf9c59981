-- What serves functions inside this crate, views, invariants and proofs alone. No contract of a public call rests on it, so
-- nobody has to believe it.
pub mod Going
pub mod Lines
pub mod Rows
