pub mod Firm
pub mod Lost
pub mod Leaves
pub mod Stays
pub mod Whole
pub mod Twice
pub mod Onward
