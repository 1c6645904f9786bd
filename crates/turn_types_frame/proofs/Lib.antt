pub mod Heads
pub mod Feeding
pub mod Framing
pub mod Texts
