pub mod Definitions
pub mod Theorems
