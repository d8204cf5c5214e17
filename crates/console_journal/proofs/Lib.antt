pub mod Listing
pub mod Showing
pub mod Taking
pub mod Ran
