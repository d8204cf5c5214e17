pub mod States
pub mod Heard
pub mod Counters
pub mod Printed
