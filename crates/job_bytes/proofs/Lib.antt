pub mod HeldLaws
pub mod MulAddChunks
pub mod MulAddLaws
pub mod ReadBack
pub mod ReadChunks
pub mod ReadLaws
