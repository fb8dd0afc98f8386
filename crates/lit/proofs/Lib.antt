pub mod Flips
pub mod Pins
pub mod Theorems
