pub mod BegunLemmas
pub mod EndLemmas
mod GivenLemmas
mod PlaceLemmas
pub mod RowLemmas
mod ShapeLemmas
mod SpeakLemmas
mod StepLemmas
mod TableLemmas
