pub mod Cells
pub mod Clauses
pub mod Merging
pub mod Outputs
pub mod Sums
