pub mod Scanning
pub mod Chains
pub mod Steps
pub mod Best
pub mod Turns
pub mod Marks
pub mod Beats
