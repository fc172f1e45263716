pub mod Sums
pub mod ByColumns
pub mod Solutions
mod Pivots
mod Steps
mod AddedRow
pub mod ByteField
pub mod Reductions
pub mod Within
