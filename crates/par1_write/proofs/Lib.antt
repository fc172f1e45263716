pub mod EntryWritingLaws
pub mod VolumeWritingLaws
