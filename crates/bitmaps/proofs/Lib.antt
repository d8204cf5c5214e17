pub mod Appended
pub mod Enoughs
pub mod Listed
pub mod Mapped
pub mod Powers
pub mod Returns
pub mod Turns
