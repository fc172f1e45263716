pub mod Rows
pub mod Recovery
pub mod Weights
pub mod EmptyFiles
pub mod Following
pub mod Decided
mod CoefficientRows
pub mod Written
pub mod AnswerLaws
pub mod GatheredLaws
pub mod Determined
