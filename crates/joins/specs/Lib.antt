pub mod Stack
pub mod Words
pub mod Story
pub mod Matched
