pub mod AfterLaws
pub mod Chunks
pub mod EndLaws
pub mod OpenLaws
mod PartLaws
pub mod PushLaws
mod Witness
