pub mod More
pub mod Dividing
