pub mod PrintLemmas
pub mod Rows
