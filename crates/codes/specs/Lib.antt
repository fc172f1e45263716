pub mod Codes
pub mod Claim
