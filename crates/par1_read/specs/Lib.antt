pub mod Claim
pub mod Former
pub mod Reading
