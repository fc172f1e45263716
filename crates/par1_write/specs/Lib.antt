pub mod EntryWriting
pub mod VolumeWriting
