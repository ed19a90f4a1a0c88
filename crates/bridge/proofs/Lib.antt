pub mod Packs
pub mod Wholes
pub mod Holds
pub mod Changed
pub mod HeldChanges
