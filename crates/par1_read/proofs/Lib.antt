pub mod FormerLaws
pub mod HeaderLaws
pub mod PlaceLaws
pub mod RangeLaws
pub mod ReadingLaws
pub mod VersionLaws
