pub mod AnyOrder
mod Bits
pub mod Counts
pub mod MulAdds
pub mod Multiples
mod Steps
pub mod Sums
