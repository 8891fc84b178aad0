pub mod Moving
pub mod Splitting
pub mod Keys
pub mod Joins
pub mod Places
pub mod Steps
pub mod Refusing
pub mod Probing
