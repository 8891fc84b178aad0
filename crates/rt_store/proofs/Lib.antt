pub mod Number
pub mod FreshLaws
pub mod Tables
pub mod Looks
pub mod Copies
pub mod Editing
mod Exchanging
mod Membership
