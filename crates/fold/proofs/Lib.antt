pub mod Folds
pub mod Theorems
