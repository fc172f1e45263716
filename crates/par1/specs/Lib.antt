pub mod Checking
pub mod Claim
