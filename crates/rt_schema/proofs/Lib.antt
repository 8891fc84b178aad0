pub mod GivenLemmas
pub mod PairsLemmas
