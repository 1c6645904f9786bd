pub mod Register
pub mod Remainder
pub mod Table
pub mod Chunks
