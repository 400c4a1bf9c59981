pub mod Audit
pub mod AuditLines
pub mod Ending
pub mod Words
pub mod Input
pub mod Run
pub mod Inner
