pub mod Few
pub mod Theorems
