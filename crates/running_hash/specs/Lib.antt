pub mod Claim
pub mod Hash
