pub mod Claim
pub mod Layout
pub mod Hashes
pub mod Rules
