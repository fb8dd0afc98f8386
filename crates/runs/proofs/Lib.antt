pub mod Questions
pub mod Symmetry
pub mod Verdicts
pub mod Existence
pub mod Pins
pub mod Theorems
