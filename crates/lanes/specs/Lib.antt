pub mod Syntax
pub mod Step
pub mod Grid
pub mod Race
pub mod Told
pub mod Promise
pub mod There
pub mod Table
