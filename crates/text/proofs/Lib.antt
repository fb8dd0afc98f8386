pub mod Puts
pub mod Digits
pub mod Groups
pub mod Pins
pub mod Theorems
