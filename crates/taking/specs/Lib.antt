pub mod Leaving
pub mod Passing
