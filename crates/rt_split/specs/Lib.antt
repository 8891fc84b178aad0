pub mod Index
pub mod Join
pub mod Probe
pub mod Refused
pub mod Split
