pub mod OfPeers
pub mod Payloads
pub mod Sending
