pub mod Comparing
pub mod Listing
pub mod More
pub mod Naming
pub mod Standing
pub mod Steps
pub mod Summing
mod Walking
pub mod Sets
pub mod FromLaws
pub mod Tested
