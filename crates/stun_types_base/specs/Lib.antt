pub mod ListLending
pub mod Refusals
pub mod SocketAddrs
pub mod GeneratorWords
pub mod Data
pub mod Family
pub mod Transport
pub mod Times
