pub mod Parts
pub mod Spelled
pub mod Ours
pub mod Pins
pub mod Theorems
