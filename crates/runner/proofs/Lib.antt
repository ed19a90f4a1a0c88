pub mod Openings
pub mod Closed
pub mod Ranges
pub mod Turns
pub mod Returns
