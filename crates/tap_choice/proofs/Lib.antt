pub mod Names
mod Worked
