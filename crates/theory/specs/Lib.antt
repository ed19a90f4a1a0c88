pub mod Demand2
pub mod Demand3
pub mod Kept
pub mod Edges
pub mod Lent
