pub mod Claim
pub mod Export
pub mod Import
pub mod Lines
pub mod Names
pub mod Walks
