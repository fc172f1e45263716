pub mod Adding
pub mod Claim
