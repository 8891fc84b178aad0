pub mod Nesting
pub mod Reads
pub mod Spelled
