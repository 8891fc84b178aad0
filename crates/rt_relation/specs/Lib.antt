pub mod Columns
pub mod Fault
pub mod Operators
pub mod Divisor
