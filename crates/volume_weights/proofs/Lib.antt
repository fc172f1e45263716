mod SideBySide
mod CoefficientRows
mod Renumbered
pub mod Steps
pub mod Determined
pub mod SolvedColumns
