pub mod MatchLemmas
pub mod PlaceLemmas
pub mod ReadLemmas
pub mod SoundLemmas
pub mod TwiceLemmas
pub mod WholeLemmas
