pub mod Entries
pub mod Taking
pub mod OneFault
pub mod OneForm
