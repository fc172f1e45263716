pub mod Claim
pub mod Marks
