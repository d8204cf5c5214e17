pub mod Lending
pub mod Trials
pub mod Told
pub mod Doing
pub mod Theorems
pub mod Printed
