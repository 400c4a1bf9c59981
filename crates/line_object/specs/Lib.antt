pub mod Key
pub mod PlainValue
pub mod Object
pub mod Inner
