pub mod Adds
pub mod Clears
pub mod Written
