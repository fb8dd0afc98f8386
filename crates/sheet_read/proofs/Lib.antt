pub mod Runs
pub mod Headers
pub mod Sheets
pub mod Pins
pub mod Theorems
