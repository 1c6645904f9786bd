pub mod Asking
pub mod Attempts
pub mod Expiring
pub mod Visible
pub mod Sockets
pub mod Streams
pub mod Reported
pub mod Waiting
