pub mod Run
pub mod Ready
