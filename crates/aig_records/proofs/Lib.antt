pub mod Flat
pub mod Joined
pub mod Theorems
