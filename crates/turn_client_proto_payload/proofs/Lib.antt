pub mod Last
pub mod OfPeers
pub mod Parts
