pub mod GrowLemmas
pub mod SearchLemmas
