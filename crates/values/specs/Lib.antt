pub mod Ops
pub mod Worth
pub mod Rows
pub mod Items
pub mod Ready
