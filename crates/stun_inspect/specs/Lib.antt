pub mod InspectLines
pub mod Printed
pub mod StreamParts
