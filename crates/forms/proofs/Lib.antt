pub mod Groups
pub mod Ends
pub mod Spelling
pub mod Puts
pub mod Lengths
pub mod Maxima
