pub mod Cauchy
pub mod Claim
