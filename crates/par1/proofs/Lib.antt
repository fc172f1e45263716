pub mod CheckingLaws
pub mod EntryWritten
mod FailedTests
pub mod Faults
pub mod ReadWritten
pub mod ReadingRefusals
mod VolumeFields
pub mod WritingRefusals
pub mod WrittenRead
