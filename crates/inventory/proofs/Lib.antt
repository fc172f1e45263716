pub mod Outside
pub mod ValidInventories
pub mod Outcomes
mod Queries
mod ChangeNumbers
pub mod ModelSets
pub mod Sizes
pub mod RecoverableSets
pub mod Calls
mod Beside
mod Inside
mod TellingCalls
pub mod Told
pub mod Determined
pub mod RefusedCalls
pub mod Representation
pub mod Openings
pub mod Condition
pub mod Quarantine
pub mod QuarantineCounts
pub mod RangeRefusals
pub mod ChangeRefusals
pub mod OtherCode
pub mod RecoverableAnswers
pub mod Answered
pub mod Reachable
mod Examples
