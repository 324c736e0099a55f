pub mod Load
pub mod Tell
pub mod Judge
pub mod Plan
pub mod Answers
