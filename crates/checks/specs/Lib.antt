pub mod Bare
pub mod Checks
