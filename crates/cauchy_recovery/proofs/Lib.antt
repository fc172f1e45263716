mod CauchyRows
mod CauchyStates
pub mod AnyWillDo
pub mod Called
pub mod LeftInverses
pub mod Examples
