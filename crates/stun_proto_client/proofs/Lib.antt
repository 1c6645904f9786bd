pub mod Choosing
pub mod Signing
pub mod Stepping
pub mod Validating
