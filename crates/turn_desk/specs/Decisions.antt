-- The application's decisions, by name.
pub use Rattle.turn_desk_core.specs.declared.decision.Decision.{Decision}
pub use Rattle.turn_desk_core.specs.declared.decision.Decision.TheVariants.{Refuse, Allocate, Refresh, Connect, Grant}
