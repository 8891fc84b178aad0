pub mod Cut
pub mod Gathering
pub mod Groups
pub mod Laws
pub mod Runs
pub mod Shared
pub mod Under
