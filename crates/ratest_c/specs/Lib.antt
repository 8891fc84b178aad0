pub mod Files
pub mod Frames
pub mod Replies
pub mod Services
pub mod Calls
pub mod Answers
pub mod Runs
