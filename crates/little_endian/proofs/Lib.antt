mod Examples
pub mod NumberLists
pub mod Numbers
pub mod Past
pub mod Reading
pub mod Stores
pub mod Writing
