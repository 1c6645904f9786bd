-- Calls of a client, and the server core's replies to what it sends. Each message is delivered once and
-- unaltered, at the time at which the client transmitted.
use Rattle.std.specs.Prelude.{◌≡◌, ℕ, List, IsSome, Vec}
use Rattle.std.specs.declared.alloc.Global.{Global}
use Rattle.std.specs.declared.net.socket_addr.SocketAddr.{SocketAddr}
use Rattle.turn_client_proto.specs.StunProtoClient.Challenges.{challenge_visible}
use Rattle.stun_types_wire.specs.Attributes.{kind_at}
use Rattle.stun_types_base.specs.Data.{data_bytes}
use Rattle.stun_types_wire.specs.declared.class.MessageClass.TheVariants.{Success}
use Rattle.stun_types_wire.specs.Types.{class_of}
use Rattle.stun_types_base.specs.declared.data.Data.{Data}
use Rattle.stun_types_base.specs.declared.transmit.Transmit.{Transmit}
use Rattle.turn_client_proto_api.specs.declared.answer.Socket5Tuple.{Socket5Tuple}
use Rattle.turn_desk_event.specs.declared.answer.Answer.{Answer}
use Rattle.turn_desk_event.specs.declared.answer.Answer.TheVariants as answer
use Rattle.turn_desk_core.specs.declared.decision.Decision.{Decision}
use Rattle.turn_desk_event.specs.declared.event.ClientCall.{ClientCall}
use Rattle.turn_desk_event.specs.declared.event.ClientCall.TheVariants.{Poll, PollEvent}
use Rattle.turn_desk_event.specs.declared.event.Event.TheVariants.{Call, Draw, ToClient, ToDesk}
use Rattle.turn_desk_world.specs.Model.{World}
use Rattle.test_driver.specs.Driving.{Happened}
use Rattle.test_honest_network.specs.declared.replying.Reply.{Reply}
use Rattle.test_honest_network.specs.declared.replying.Reply.TheVariants as reply

-- One thing happened after another.
pub record Then (One Other : World → World → Type 0) (old new : World) : Type 0 where
  pub middle : World
  pub one : One old middle
  pub other : Other middle new

-- A call succeeded (`IsCall`), an event was taken (`IsTaken`), or the client asked for a socket (`IsPoll`).
abbrev pub IsCall : ClientCall → ℕ → World → World → Type 0
IsCall what now old new = Happened (Call what now) old answer.Done new

pub record IsTaken (now : ℕ) (old new : World) : Type 0 where
  pub ret : Answer
  pub step : Happened (Call PollEvent now) old ret new

pub record IsPoll (now : ℕ) (old new : World) : Type 0 where
  pub number : ℕ
  pub socket : Socket5Tuple
  pub peer : SocketAddr
  pub step : Happened (Call Poll now) old (answer.Socket number socket peer) new

-- The server core's bytes are this kind of reply.
abbrev pub IsKind : List ℕ → Reply → Type 0
IsKind bytes reply.Neither = Unit {0}
IsKind bytes reply.Success = class_of (kind_at bytes) ≡ Success
IsKind bytes reply.Challenge = IsSome (challenge_visible bytes)

-- The reply has this kind, and reached the client.
pub record HasGiven (sent : Transmit Data) (now : ℕ) (bytes : Vec ℕ Global) (kind : Reply) (old new : World) : Type 0 where
  pub is_kind : IsKind bytes.items kind
  pub ret : Answer
  pub given : Happened (ToClient bytes sent.to sent.from now) old ret new

-- The client's message reached the server core, and the reply reached the client.
pub record HasBrought (sent : Transmit Data) (now : ℕ) (decision : Decision) (kind : Reply) (old new : World) : Type 0 where
  pub bytes : Vec ℕ Global
  pub same : bytes.items ≡ data_bytes sent.bytes
  pub seed : List ℕ
  pub answered : Vec ℕ Global
  pub replied : World
  pub requested : Happened (ToDesk bytes sent.from now decision seed) old (answer.Reply answered) replied
  pub taken : HasGiven sent now answered kind replied new

-- The client was polled for a message, which was delivered to the server core.
pub record HasReplied (now : ℕ) (decision : Decision) (kind : Reply) (old new : World) : Type 0 where
  pub sent : Transmit Data
  pub transmitted : World
  pub step : Happened (Draw now) old (answer.Transmit sent) transmitted
  pub brought : HasBrought sent now decision kind transmitted new

-- The statement holds for a success response or a challenge. For any other result nothing is said.
abbrev pub Unless : Reply → (Reply → Type 0) → Type 0
Unless reply.Neither Is = Unit {0}
Unless reply.Success Is = Is reply.Success
Unless reply.Challenge Is = Is reply.Challenge

abbrev pub IsGiven : Transmit Data → ℕ → Vec ℕ Global → World → Reply → World → Type 0
IsGiven sent now bytes old kind new = HasGiven sent now bytes kind old new

abbrev pub IsBrought : Transmit Data → ℕ → Decision → World → Reply → World → Type 0
IsBrought sent now decision old kind new = Unless kind (λ k. HasBrought sent now decision k old new)

abbrev pub IsReplied : ℕ → Decision → World → Reply → World → Type 0
IsReplied now decision old kind new = Unless kind (λ k. HasReplied now decision k old new)
