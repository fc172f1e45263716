pub mod Changes
pub mod Coefficients
pub mod Files
mod Orders
pub mod Parities
pub mod Volumes
