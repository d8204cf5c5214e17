pub mod Listings
pub mod Printed
pub mod Doing
pub mod Held
pub mod Journaled
pub mod Obeying
pub mod Laws
