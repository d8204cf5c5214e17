pub mod Laws
pub mod Layout
pub mod Sections
pub mod Value
