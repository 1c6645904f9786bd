pub mod Carrying
pub mod Driving
