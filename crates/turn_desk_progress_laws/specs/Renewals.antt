-- What a client that is left alone with its allocation comes to, over UDP or TCP (RFC 8656, section 8).
use Rattle.std.specs.Prelude.{◌≡◌, ◌≢◌, ◌≤◌, ◌<◌, ℕ, Bool, true, false, List, [], ◌∷◌, None, Some}
use Rattle.std.specs.declared.net.socket_addr.SocketAddr.{SocketAddr}
use Rattle.turn_desk_core.specs.StunTypesWire.Attributes.{kind_at}
use Rattle.turn_desk_core.specs.StunTypesWire.Grammar.{refusal}
use Rattle.turn_desk_core.specs.StunTypesWire.declared.algorithm.IntegrityAlgorithm.{IntegrityAlgorithm}
use Rattle.turn_desk_core.specs.StunTypesWire.declared.class.MessageClass.TheVariants.{Request}
use Rattle.turn_desk_core.specs.StunTypesWire.Types.{class_of, method_of}
use Rattle.turn_client_proto_messages.specs.StunProtoClient.Digests.{IsRight}
use Rattle.turn_desk_core.specs.TurnTypesAttributes.TurnRegistry.{lifetime_kind, refresh_method}
use Rattle.turn_desk_core.specs.TurnTypesPeer.TurnShows.{number_visible}
use Rattle.turn_client_proto_messages.specs.Allocation.Listed.{relayed_listed}
use Rattle.turn_client_proto_api.specs.Sent.{Sent}
use Rattle.turn_client_proto_messages.specs.Api.Options.{allocation_lifetime}
use Rattle.turn_desk_world_laws.specs.World.Model.{World}
use Rattle.turn_desk_progress_laws.specs.Promises.{HasClient, IsOwnSent, IsStrongestOf, key_in_realm}
use Rattle.turn_desk_progress_laws.specs.Scripts.{Plan}
use Rattle.turn_desk_progress_laws.specs.Turns.{Turn, Watch, Watching, Refreshing, Renewing, Off, due}

-- The client holds exactly the allocation with that address.
abbrev pub HoldsStill : Plan → SocketAddr → (head : List ℕ) → World → Type 0
HoldsStill plan address head w =
    HasClient plan head w (λ p. relayed_listed p.allocations ≡ (plan.client.config.transport, address) ∷ [])

-- `now` is before `time`; or, if not `strictly`, it may also be equal.
abbrev pub IsBefore : (strictly : Bool) → (now time : ℕ) → Type 0
IsBefore true now time = now < time
IsBefore false now time = now ≤ time

-- No REFRESH was transmitted, and at most one other message.
abbrev pub AreEarly : List Sent → Type 0
AreEarly [] = Unit {0}
AreEarly (sent ∷ []) = method_of (kind_at sent.bytes) ≢ refresh_method
AreEarly (sent ∷ other ∷ others) = ⊥

-- The allocation is held. The client waits for no time later than a minute before the end; and if it waits
-- for that time, there is something to transmit then. No REFRESH was transmitted before.
pub record IsHeldOn (plan : Plan) (address : SocketAddr) (s : Watch) (w : World) : Type 0 where
  pub held : HoldsStill plan address [] w
  pub by_due : IsBefore s.transmitted s.until (due s.from s.lifetime)
  pub early : AreEarly s.early

-- The message is a REFRESH that requests a lifetime, valid under the user's key in the server core's realm,
-- by the strongest common algorithm.
pub record IsOwnRefresh (plan : Plan) (old : World) (bytes : List ℕ) : Type 0 where
  pub message : refusal bytes ≡ None
  pub request : class_of (kind_at bytes) ≡ Request
  pub method : method_of (kind_at bytes) ≡ refresh_method
  pub lifetime : number_visible 4 lifetime_kind bytes ≡ Some allocation_lifetime
  pub algorithm : IntegrityAlgorithm
  pub strongest : IsStrongestOf plan.client.config.algorithms old.desk.auth.algorithms algorithm
  pub right : IsRight bytes (key_in_realm plan old algorithm)

-- It is transmitted a minute before the end, from the client's own address to the server's, and the
-- allocation is held.
pub record IsSentInTime (plan : Plan) (old : World) (address : SocketAddr) (request : Sent) (from lifetime now : ℕ)
    (w : World) : Type 0 where
  pub held : HoldsStill plan address [] w
  pub in_time : now ≡ due from lifetime
  pub is_own : IsOwnSent plan request
  pub refresh : IsOwnRefresh plan old request.bytes

-- What holds when a client was driven to a turn.
abbrev pub HasRenewed : Plan → World → SocketAddr → Turn → World → Type 0
HasRenewed plan old address (Watching s) w = IsHeldOn plan address s w
HasRenewed plan old address (Refreshing request from lifetime now) w =
    IsSentInTime plan old address request from lifetime now w
HasRenewed plan old address (Renewing request reply head lifetime now) w = HoldsStill plan address head w
HasRenewed plan old address Off w = ⊥
