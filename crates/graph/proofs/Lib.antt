pub mod Tests
pub mod Below
pub mod Sets
pub mod Fills
pub mod Visits
pub mod Ways
pub mod Reachable
pub mod Leasts
pub mod Ranks
pub mod Orders
mod Cases
pub mod Turns
pub mod Taken
