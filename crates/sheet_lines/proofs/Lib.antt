pub mod Texts
pub mod Answers
pub mod ReadBack
pub mod Pins
pub mod Theorems
