pub mod Beyond
pub mod Lows
pub mod Shows
pub mod Keyed
