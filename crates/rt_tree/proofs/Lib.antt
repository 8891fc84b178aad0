pub mod ItemLaws
pub mod SpelledLemmas
pub mod SumLaws
