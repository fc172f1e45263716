pub mod Chunks
pub mod PushLaws
