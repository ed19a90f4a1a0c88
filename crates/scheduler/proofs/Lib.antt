pub mod Exits
pub mod Unique
pub mod Useless
