pub mod Binding
pub mod Granted
pub mod Expiring
pub mod Numbers
pub mod Visible
pub mod Wanting
