pub mod Found
pub mod Name
pub mod Room
pub mod Run
pub mod Scan
