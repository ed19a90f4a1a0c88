pub mod Format
pub mod Decoding
pub mod Spelling
pub mod Answers
