pub mod Moves
pub mod Theorems
