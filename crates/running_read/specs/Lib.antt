pub mod Claim
pub mod Running
