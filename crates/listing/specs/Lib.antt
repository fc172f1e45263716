pub mod Claim
pub mod Lines
pub mod Listing
