pub mod Log
pub mod Cuts
pub mod Places
pub mod Steps
pub mod Numbers
pub mod Laws
