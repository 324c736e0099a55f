pub mod Kept
pub mod Code
pub mod Whole
