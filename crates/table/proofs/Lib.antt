pub mod Changes
pub mod Edges
pub mod Facts
pub mod Keeping
pub mod Maps
pub mod Shifts
