pub mod Reading
pub mod Files
pub mod Printed
