pub mod Answers
pub mod Begun
pub mod Judged
pub mod Outcomes
pub mod Texts
pub mod Words
pub mod OneGrading
