pub mod Scan
pub mod Post
pub mod Back
pub mod Word
