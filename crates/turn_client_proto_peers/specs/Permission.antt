pub mod Asking
pub mod Granted
pub mod Permitted
pub mod Visible
pub mod Reporting
pub mod Wanting
