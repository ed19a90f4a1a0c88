pub mod Inserts
pub mod Keeps
pub mod Untils
pub mod Pads
pub mod Scans
pub mod Loops
pub mod Firsts
pub mod Insertions
