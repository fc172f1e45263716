pub mod EntryBytes
pub mod EntryLaws
mod Examples
pub mod FirstFaults
pub mod KeepLaws
pub mod NameFaults
pub mod NameLaws
pub mod NumberingLaws
pub mod WalkLaws
