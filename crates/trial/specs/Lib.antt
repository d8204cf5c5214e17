pub mod Epochs
pub mod Faults
pub mod Fits
pub mod Lends
pub mod Sets
pub mod Trials
