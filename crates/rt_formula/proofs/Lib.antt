pub mod Cutting
pub mod Gates
pub mod GroupLemmas
pub mod Growth
pub mod MarkLemmas
pub mod Meaning
pub mod RunLemmas
pub mod Standing
