pub mod Calls
pub mod Catalog
pub mod Claim
pub mod Plan
pub mod Rows
pub mod Runs
