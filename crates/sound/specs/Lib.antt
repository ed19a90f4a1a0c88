pub mod Shape
pub mod Parts
pub mod Rows
pub mod Records
pub mod Base
pub mod Items
pub mod Rings
pub mod Told
