pub mod Taking
mod Showing
