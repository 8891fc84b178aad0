pub mod Depth
pub mod Formed
pub mod Reads
pub mod Refusals
pub mod Trees
pub mod Whole
