pub mod Renumber
pub mod Expand
