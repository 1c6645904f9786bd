pub mod Allocated
pub mod Requested
pub mod Lifetimes
pub mod Objected
