pub mod Answers
pub mod Loops
pub mod Literals
pub mod Spelled
pub mod Known
pub mod NeverShort
pub mod Pins
pub mod Theorems
