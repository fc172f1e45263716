pub mod BlockLaws
mod Rows
mod Steps
