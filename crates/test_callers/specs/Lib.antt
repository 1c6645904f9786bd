pub mod Requested
pub mod Looked
pub mod Redirected
pub mod Driven
