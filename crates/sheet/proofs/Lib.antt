pub mod Cells
pub mod Circuits
pub mod Answers
pub mod Room
pub mod Reports
pub mod Newlines
pub mod Pins
pub mod Theorems
