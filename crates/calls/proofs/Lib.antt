pub mod Exits
pub mod Outcomes
pub mod Tables
pub mod Opens
pub mod Begins
pub mod Accesses
pub mod Ends
