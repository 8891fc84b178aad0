pub mod BegunLemmas
mod BesideLemmas
mod AloneLemmas
mod FaultLemmas
mod GradeLemmas
mod WordLemmas
mod JudgeLemmas
mod KnownLemmas
mod CandidateLemmas
mod SpellingLemmas
pub mod OneGradingLemmas
