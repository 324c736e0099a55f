pub mod Marks
mod Finding
mod Keeping
mod Words
mod Whole
