pub mod Inductive
pub mod Linking
pub mod Shaped
pub mod Typings
