pub mod Amending
pub mod Call
pub mod Claim
pub mod Plan
