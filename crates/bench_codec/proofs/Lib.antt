pub mod Growing
pub mod Objected
pub mod Signed
