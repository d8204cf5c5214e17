pub mod Area
pub mod Edits
pub mod Writes
pub mod Records
