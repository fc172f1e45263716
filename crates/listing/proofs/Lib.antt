mod AcceptedLaws
mod Examples
pub mod LengthLaws
pub mod LineLaws
pub mod RefusedLines
