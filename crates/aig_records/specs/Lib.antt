pub mod Records
pub mod Checks
pub mod Outcome
pub mod Determined
pub mod Passed
