-- What holds at the positions of a handshake over TCP, beyond what holds over either transport: nothing is
-- queued.
use Rattle.std.specs.Prelude.{◌≡◌, ℕ, List, []}
use Rattle.std.specs.declared.net.socket_addr.SocketAddr.{SocketAddr}
use Rattle.turn_client_proto_api.specs.declared.event.TurnEvent.{TurnEvent}
use Rattle.turn_client_proto_handshake_laws.specs.Choosing.{Choice, IsChoice}
use Rattle.turn_client_proto_handshake_laws.specs.Stages.{Holds}
use Rattle.turn_desk_world_laws.specs.World.Model.{World}
use Rattle.turn_desk_progress_laws.specs.Promises.{HasClient}
use Rattle.turn_desk_progress_laws.specs.Standing.{IsOfSettings}
use Rattle.turn_desk_progress_laws.specs.Scripts.{Plan, Progress, Start, Requested, Challenged, Came, Signed, Granted, Done, Barred}
use Rattle.turn_desk_progress_laws.specs.Scripts.{Silent}

-- The client holds the allocation, and nothing is queued.
pub record IsHeldAlone (plan : Plan) (old : World) (address : SocketAddr) (lifetime : ℕ) (w : World) : Type 0 where
  pub choice : Choice
  pub chosen : IsChoice plan.client choice
  pub of : IsOfSettings old.desk.auth choice.reported
  pub left : List TurnEvent
  pub client : HasClient plan [] w (λ p. Holds plan.client choice address lifetime plan.second plan.second [] left p)

abbrev pub IsAlone : Plan → World → Progress → World → Type 0
IsAlone plan old Start w = Unit {0}
IsAlone plan old (Requested request) w = Unit {0}
IsAlone plan old (Challenged request reply head) w = Unit {0}
IsAlone plan old Came w = Unit {0}
IsAlone plan old (Signed request) w = HasClient plan [] w (λ p. p.queue ≡ [])
IsAlone plan old (Granted request address lifetime reply head) w = HasClient plan head w (λ p. p.queue ≡ [])
IsAlone plan old (Done request address lifetime reply) w = IsHeldAlone plan old address lifetime w
IsAlone plan old Barred w = Unit {0}
IsAlone plan old Silent w = Unit {0}
