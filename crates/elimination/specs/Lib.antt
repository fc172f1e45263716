pub mod Claim
pub mod Field
pub mod ByteField
pub mod Matrix
pub mod Reduction
