-- What serves functions inside this crate, views, invariants and proofs alone. No contract of a public call rests on
-- it, so nobody has to believe it.
pub mod Judged
pub mod Kept
pub mod Lookup
pub mod Machine
pub mod Stays
pub mod Telling
pub mod Noting
pub mod Found
pub mod Finding
pub mod PlaceFinding
pub mod WayFinding
pub mod Messages
pub mod Otherwise
