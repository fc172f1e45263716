pub mod Chunks
mod HashLaws
