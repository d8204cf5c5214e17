pub mod Boards
pub mod Doing
pub mod Printed
