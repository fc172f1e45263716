pub mod Log
pub mod Lines
pub mod Replay
pub mod Events
pub mod FirstLine
pub mod Claim
