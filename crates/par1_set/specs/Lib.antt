pub mod Calls
pub mod Claim
pub mod Files
pub mod Volume
