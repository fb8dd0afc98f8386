pub mod Order
pub mod Intake
