pub mod CallClaims
mod CallLaws
mod Examples
mod ExportLaws
pub mod FaultLaws
mod LineLaws
mod NameLaws
mod Outcomes
pub mod PassedOver
pub mod RangeLaws
mod SaysLaws
pub mod ShapeLaws
mod SumLaws
