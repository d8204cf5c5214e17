pub mod Numbers
pub mod Early
pub mod Fields
pub mod Faults
pub mod FirstBytes
pub mod RoundTrip
