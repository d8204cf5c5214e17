pub mod Alike
pub mod Passing
pub mod Taking
