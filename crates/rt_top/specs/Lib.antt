pub mod Answers
pub mod GivenUp
pub mod One
pub mod Smallest
pub mod Texts
