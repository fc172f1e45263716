pub mod Recoverable
pub mod Answers
pub mod Claim
