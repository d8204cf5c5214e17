pub mod Overruns
pub mod Next
