pub mod Bytes
pub mod Refused
pub mod Field
pub mod Wrote
pub mod Hex
pub mod Printed
pub mod Meaning
pub mod Sizes
