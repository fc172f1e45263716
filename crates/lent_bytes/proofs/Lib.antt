pub mod EachLaws
pub mod EqualLaws
pub mod PartLaws
pub mod PartsInRow
pub mod StoreLaws
pub mod WritingLaws
