pub mod Numbers
pub mod Layout
pub mod Lent
pub mod Acts
pub mod Ended
pub mod Rows
pub mod Counts
