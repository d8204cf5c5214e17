pub mod Ends
pub mod Keys
pub mod Order
pub mod Rows
pub mod Updates
pub mod Bytewise
pub mod Tables
