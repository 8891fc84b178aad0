pub mod Closing
pub mod Cone
pub mod Meaning
