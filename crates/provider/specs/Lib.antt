pub mod Answers
pub mod Laws
pub mod Positions
pub mod Values
