pub mod Members
pub mod Reads
pub mod Spelled
pub mod TestReads
pub mod TestSpelled
pub mod Trees
