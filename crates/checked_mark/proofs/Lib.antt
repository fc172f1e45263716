mod AnswerLaws
mod CatalogMarks
pub mod CheckMarks
mod EntryMarks
mod Examples
mod FileMarks
pub mod ListMarks
pub mod NothingActs
mod PairLaws
pub mod SetMarks
mod TextMarks
pub mod VolumeMarks
