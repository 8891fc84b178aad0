-- what a command writes, and how its outcome says whether that went well
pub mod Writing
