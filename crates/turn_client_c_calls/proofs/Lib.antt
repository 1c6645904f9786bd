pub mod Calling
pub mod Handles
pub mod Showing
pub mod Reporting
pub mod Values
