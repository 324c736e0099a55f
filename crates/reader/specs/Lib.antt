pub mod Heads
pub mod Blocks
pub mod Texts
pub mod Goeson
