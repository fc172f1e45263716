pub mod Claim
pub mod Marks
pub mod MulAdds
pub mod Reads
