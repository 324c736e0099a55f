pub mod Lines
pub mod Words
pub mod Settle
pub mod Code
pub mod Scan
pub mod Make
pub mod Joins
