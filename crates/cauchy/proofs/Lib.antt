pub mod Coefficients
mod Examples
