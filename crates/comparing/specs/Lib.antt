pub mod Claim
pub mod Comparing
pub mod Differences
pub mod Lines
pub mod Runs
