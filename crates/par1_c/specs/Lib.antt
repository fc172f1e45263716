pub mod Answers
pub mod Claim
pub mod Codes
pub mod Inventories
pub mod Replays
pub mod Runs
