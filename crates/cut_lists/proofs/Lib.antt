pub mod AllLaws
pub mod CutLaws
mod Examples
