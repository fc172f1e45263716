pub mod Model
pub mod Outcome
pub mod Steps
pub mod Query
pub mod RecoverableFiles
pub mod Claim
