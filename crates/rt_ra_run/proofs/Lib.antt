mod AskedLemmas
mod BegunLemmas
mod JudgeLemmas
mod QueryLemmas
mod RowLemmas
mod StepLemmas
mod OneLemmas
