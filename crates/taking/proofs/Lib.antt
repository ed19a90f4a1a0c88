pub mod Places
pub mod Leaves
pub mod Passes
pub mod Placed
pub mod Taken
pub mod Handed
pub mod Pruned
