pub mod Claim
pub mod Entry
pub mod Numbering
pub mod Walk
