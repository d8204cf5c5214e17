pub mod Own
pub mod Places
