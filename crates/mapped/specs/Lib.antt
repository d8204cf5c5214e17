pub mod Bodies
pub mod Certificates
pub mod Judging
pub mod Keeping
pub mod Mapping
pub mod Theorems
