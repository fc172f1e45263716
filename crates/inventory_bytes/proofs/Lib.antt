pub mod BackLaws
pub mod Stores
pub mod CountPlaces
mod InventoryLaws
mod CountLaws
