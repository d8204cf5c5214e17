pub mod Steps
pub mod Marks
pub mod Puts
pub mod Onward
pub mod Room
pub mod Heads
pub mod Stores
