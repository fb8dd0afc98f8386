pub mod Lines
pub mod Promise
pub mod Spelling
