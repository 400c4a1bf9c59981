mod Intervals
mod Tables
mod Worked
