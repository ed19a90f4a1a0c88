pub mod Sets
pub mod Fill
pub mod Reach
pub mod Visit
pub mod Rows
