pub mod Determined
pub mod Writing
