pub mod Runs
pub mod Carries
