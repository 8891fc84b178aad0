pub mod HeadLaws
pub mod ParseLemmas
pub mod RaLaws
pub mod TestLaws
pub mod TreeLemmas
pub mod WholeLemmas
