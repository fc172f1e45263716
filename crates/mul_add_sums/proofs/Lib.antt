pub mod Boxes
mod ByteLaws
mod Examples
mod SumLaws
mod Turns
