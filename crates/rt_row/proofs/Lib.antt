mod Nodes
mod ReaderLemmas
mod RowLemmas
mod Transfer
mod VerdictLemmas
mod OneRowLemmas
