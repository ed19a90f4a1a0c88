pub mod Places
pub mod Standing
pub mod Tidying
pub mod Dropping
pub mod Committing
