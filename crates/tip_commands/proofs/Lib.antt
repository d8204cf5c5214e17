pub mod Ordered
pub mod Placing
