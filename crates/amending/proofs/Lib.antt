mod AmendCalls
mod AmendedFiles
mod Amends
mod ChangeTests
mod EntryPlaces
mod Examples
mod FailedTests
mod FoundEntries
mod KeptParts
mod PatchLaws
mod PlanLaws
pub mod RangeLaws
mod Refusals
mod SpanLaws
mod Splices
mod WriteLaws
