pub mod Faults
pub mod Counting
pub mod Tables
pub mod Ranks
pub mod Seats
pub mod Tips
