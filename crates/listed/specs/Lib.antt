pub mod Certificates
pub mod Judging
pub mod Keeping
pub mod Listing
pub mod Theorems
