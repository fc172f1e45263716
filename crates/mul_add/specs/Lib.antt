pub mod Claim
pub mod MulAdd
pub mod Once
