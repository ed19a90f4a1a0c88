pub mod Blocks
pub mod Times
pub mod Drawn
pub mod Spent
pub mod Told
