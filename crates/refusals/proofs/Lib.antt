pub mod OrderLaws
pub mod RangeLaws
pub mod TestLaws
