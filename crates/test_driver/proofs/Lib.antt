pub mod Deliveries
pub mod Parts
