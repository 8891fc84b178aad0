pub mod Capped
pub mod Cells
pub mod Check
pub mod Given
pub mod Kept
pub mod Law
pub mod LawWork
pub mod Schema
