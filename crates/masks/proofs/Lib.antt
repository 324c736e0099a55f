pub mod Bits
pub mod Counts
pub mod Spanning
pub mod Vectors
