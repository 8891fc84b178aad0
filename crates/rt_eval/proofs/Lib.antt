pub mod DistinctLaws
pub mod Joining
pub mod Pairing
