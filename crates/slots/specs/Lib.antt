pub mod Order
pub mod Value
pub mod Stores
pub mod Vacancies
pub mod Entries
