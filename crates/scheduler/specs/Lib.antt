pub mod Loading
pub mod Promise
