pub mod Polynomial
pub mod Field
pub mod Tables
pub mod Answer
pub mod Claim
