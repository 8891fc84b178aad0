pub mod Trail
pub mod Storing
pub mod Table
pub mod Packing
pub mod Same
pub mod Watching
pub mod Members
pub mod Places
