pub mod BoolLemmas
pub mod CutLemmas
pub mod DependLemmas
pub mod KeptLemmas
pub mod LinkLemmas
pub mod Meanings
pub mod SetLemmas
pub mod StepLemmas
