pub mod Ascii
pub mod Buffer
pub mod Claim
pub mod Decimal
pub mod Hex
pub mod TextLines
pub mod Writer
