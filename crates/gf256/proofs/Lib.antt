pub mod Xor
pub mod Polynomials
pub mod Remainder
mod Linear
pub mod Products
pub mod Powers
mod Squares
pub mod Inverses
pub mod TableLaws
