pub mod Best
pub mod Marks
