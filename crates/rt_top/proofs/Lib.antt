pub mod DecideLemmas
pub mod OneLemmas
mod VerdictLemmas
