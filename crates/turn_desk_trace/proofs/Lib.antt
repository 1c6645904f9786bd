pub mod AddressLemmas
pub mod AlgorithmLemmas
pub mod BytesLemmas
pub mod LineLemmas
pub mod NumberLemmas
