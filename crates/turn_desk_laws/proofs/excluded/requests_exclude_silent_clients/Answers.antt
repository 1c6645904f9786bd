use Rattle.std.proofs.Common.{◌≡◌, List, ℕ}
use Rattle.turn_desk_event.specs.declared.answer.Answer.TheVariants as answer
use Rattle.turn_desk_world_laws.specs.World.Model.{World}
use Rattle.turn_desk_progress_laws.specs.Scripts.{Plan}
use Rattle.turn_desk_laws.specs.RequestLoops.{Again, Before, IsDrawOf, Itself}
use Rattle.turn_desk_laws.proofs.excluded.requests_exclude_silent_clients.Goals as goal

gives_something : (plan : Plan) (request : List ℕ) (ahead : ℕ) (w v : World) → IsDrawOf plan request ahead w answer.Nothing v → ⊥
gives_something plan request ahead w v (Again out behind) = out.is
gives_something plan request ahead w v (Itself none is) = is
gives_something plan request ahead w v (Before left one is behind) = is

pub returns : goal.returns
returns c = λ plan request ahead w v is. gives_something plan request ahead w v is
