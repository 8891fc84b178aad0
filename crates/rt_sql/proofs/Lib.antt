pub mod ChainLaws
pub mod CondLaws
pub mod ParseLemmas
pub mod RefusalLemmas
pub mod StartLemmas
pub mod TreeLemmas
pub mod WholeLemmas
