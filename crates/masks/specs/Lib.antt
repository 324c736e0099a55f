pub mod Masks
pub mod Spans
