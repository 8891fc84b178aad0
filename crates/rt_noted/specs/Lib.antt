pub mod Ann
pub mod Annotated
pub mod Entries
pub mod Joints
pub mod Known
pub mod Narrowed
