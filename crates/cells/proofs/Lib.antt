pub mod Ahead
pub mod Back
pub mod Words
