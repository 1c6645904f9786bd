pub mod MapView
pub mod WordLemmas
