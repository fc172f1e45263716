mod Tests
mod Determined
mod Chosen
mod ListedStates
mod StatedWeights
mod Witnesses
pub mod Examples
