pub mod Numbers
pub mod Bodies
pub mod Unfold
pub mod Counts
pub mod Spelling
pub mod Files
pub mod Puts
