pub mod AppendLemmas
pub mod CutLemmas
pub mod InputLemmas
pub mod WordLemmas
