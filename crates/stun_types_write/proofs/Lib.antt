pub mod Lent
pub mod Padding
pub mod Types
pub mod Values
pub mod Walked
