pub mod Order
pub mod Sets
pub mod Reading
pub mod Printed
