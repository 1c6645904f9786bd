pub mod Addresses
pub mod Causes
pub mod Settings
pub mod Reported
