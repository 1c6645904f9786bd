pub mod Handshakes
pub mod SmallWords
pub mod Rounds
pub mod Ungranted
pub mod AnyRealm
pub mod AnyNumber
pub mod OtherKeys
-- Crates that build on this one reach these definitions through it.
pub use Rattle.turn_runs.specs as TurnRuns
