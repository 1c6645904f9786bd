pub mod Driving
pub mod Growing
pub mod Sending
