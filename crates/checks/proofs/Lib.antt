pub mod Offenders
pub mod Sizes
pub mod Theorems
