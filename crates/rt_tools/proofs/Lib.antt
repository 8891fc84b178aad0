mod BegunLemmas
mod EndLemmas
mod JudgedLemmas
mod LineLemmas
mod OneGradingLemmas
