mod CallLaws
mod CoverLaws
mod EntryLineLaws
mod Examples
mod FieldLaws
pub mod LengthLaws
mod ListLaws
mod MemberLaws
pub mod Named
pub mod NoLine
pub mod OrderLaws
pub mod RefusedLaws
mod RunLaws
mod ScanLaws
mod SectionLaws
mod TextLaws
