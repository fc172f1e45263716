pub mod Claim
pub mod Job
