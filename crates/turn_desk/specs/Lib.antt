-- The definitions that the contracts of this facade's items use, each file under its own name.
pub mod Decisions
pub use Rattle.turn_desk_core.specs.RequestedFor
pub use Rattle.turn_desk_core.specs.AuthLending
pub use Rattle.turn_desk_core.specs.DeskCalls
pub use Rattle.turn_desk_core.specs.DeskIsolation
pub use Rattle.turn_desk_core.specs.DeskSteps
pub use Rattle.turn_desk_core.specs.ForbiddenPeers
pub use Rattle.turn_desk_core.specs.Granted
pub use Rattle.turn_desk_core.specs.Grants
pub use Rattle.turn_desk_core.specs.Replies
pub use Rattle.turn_desk_core.specs.Requests
pub use Rattle.turn_desk_core.specs.State
pub use Rattle.turn_desk_core.specs.Steps
pub use Rattle.turn_desk_core.specs.Verdicts
pub use Rattle.turn_desk_world.specs.Determined
pub use Rattle.turn_desk_world.specs.TurnRuns.Headline
pub use Rattle.turn_desk_world.specs.TurnRuns.Messages
pub use Rattle.turn_desk_world.specs.Model
pub use Rattle.turn_desk_world.specs.Replay
pub use Rattle.turn_desk_world.specs.Runs
pub use Rattle.turn_desk_world.specs.TurnRuns.Runs as RunsOfAny
pub use Rattle.turn_desk_world.specs.TurnRuns.Steps as StepsOfAny
pub use Rattle.turn_desk_world.specs.TurnRuns.Words
