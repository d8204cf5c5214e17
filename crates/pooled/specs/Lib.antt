pub mod Certificates
pub mod Judging
pub mod Keeping
pub mod Pooling
pub mod Theorems
