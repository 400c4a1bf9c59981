-- What serves functions inside this crate, views, invariants and proofs alone. No contract of a public call rests on
-- it, so nobody has to believe it.
pub mod Became
pub mod StandsFor
pub mod Steps
pub mod Watching
pub mod Hearing
pub mod Recordings
pub mod Measuring
pub mod Stages
pub mod Counting
pub mod Task
pub mod Handing
pub mod Vain
