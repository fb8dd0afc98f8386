pub mod Renumbering
pub mod Pins
pub mod ExpandPins
pub mod Theorems
