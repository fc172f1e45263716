pub mod Rounds
pub mod Blocks
