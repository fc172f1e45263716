pub mod AnswerLaws
pub mod ReplayLaws
mod CallLaws
pub mod CodeCalls
mod Determined
pub mod Kept
mod LoadLaws
mod MulAddCalls
pub mod OnBytes
pub mod OtherBytes
pub mod RunOnBytes
