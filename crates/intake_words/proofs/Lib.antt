pub mod Theorems
pub mod Zero
pub mod Pins
pub mod Ordering
