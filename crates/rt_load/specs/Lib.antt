pub mod Integer
pub mod Loaded
pub mod Records
pub mod Made
