pub mod Escapes
pub mod Transmitted
pub mod Lines
pub mod Pictures
pub mod Visible
