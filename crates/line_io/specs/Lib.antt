pub mod Cut
pub mod Input
pub mod LowerHex
pub mod Refusal
pub mod Status
pub mod Stop
pub mod LineWords
