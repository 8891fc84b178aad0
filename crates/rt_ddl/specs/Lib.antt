pub mod Checks
pub mod LexFaults
pub mod Matches
pub mod Meaning
pub mod Parts
pub mod Places
pub mod Read
pub mod Whole
