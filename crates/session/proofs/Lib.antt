pub mod Keeping
pub mod Onward
