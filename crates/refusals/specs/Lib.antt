pub mod Limits
pub mod Order
pub mod Tests
