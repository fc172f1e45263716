pub mod Claim
pub mod Each
pub mod Equal
pub mod Writing
