pub mod Claim
pub mod Coefficient
pub mod Parity
