pub mod Told
pub mod Life
pub mod Judged
pub mod StandsFor
