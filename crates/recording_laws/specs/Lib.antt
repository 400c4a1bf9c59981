pub mod Exact
pub mod ExactCapture
pub mod Alone
pub mod Once
pub mod EachExchange
pub mod OwnReadings
pub mod OwnReported
