-- A server core's steps in the terms of a run.
use Rattle.std.specs.Prelude.{◌≡◌, ℕ, ◌<◌, ◌^◌, List, map, Option, Some, MatchOption}
use Rattle.std.specs.List.{AllByRecursion}
use Rattle.std.specs.declared.net.socket_addr.SocketAddr.{SocketAddr}
use Rattle.rand_core.specs.Stream.{Stream}
use Rattle.turn_desk_core.specs.StunTypesWire.Grammar.{number_at}
use Rattle.turn_desk_core.specs.StunTypesWire.Headers.{AreBytes}
use Rattle.turn_desk_core.specs.StunTypesWire.declared.algorithm.IntegrityAlgorithm.{IntegrityAlgorithm}
use Rattle.turn_desk_core.specs.TurnTypesPeer.TurnShows.{address_in}
use Rattle.turn_desk_core.specs.Replies.{relayed_attribute}
use Rattle.turn_desk_core.specs.Requests.{IsServed}
use Rattle.turn_desk_core.specs.declared.decision.Decision.{Decision}
use Rattle.turn_desk_core.specs.declared.decision.Decision.TheVariants as by
use Rattle.turn_desk_core.specs.declared.grant.Grant as granted
use Rattle.turn_desk_core.specs.State.{State}
use Rattle.turn_desk_core.specs.Steps.{IsAnswer, IsGranted, key_at}
use Rattle.turn_runs_laws.specs.TurnRuns.Messages.{Grant}
use Rattle.turn_runs_laws.specs.TurnRuns.Words.{DeskWords}

-- Bytes came from an address at a time, and the server core may have replied.
pub record DeskCall : Type 0 where
  pub before : State
  pub source : SocketAddr
  pub bytes : List ℕ
  pub now : ℕ
  -- The random words from which a nonce is generated.
  pub stream : Stream
  pub decision : Decision
  pub reply : Option (List ℕ)
  pub after : State

-- Each address is decoded unchanged from a success response with this transaction ID.
abbrev pub AreReported : ℕ → List SocketAddr → Type 0
AreReported transaction_id relayed = AllByRecursion (λ addr. address_in transaction_id (relayed_attribute transaction_id addr) ≡ Some addr) relayed

-- A response with this transaction ID can carry what is decided: its addresses have no flow information and
-- no scope, and its numbers fit into four bytes.
abbrev pub CanBeReported : ℕ → Decision → Type 0
CanBeReported transaction_id (by.Allocate relayed lifetime) = AreReported transaction_id relayed × (lifetime < 2 ^ 32)
CanBeReported transaction_id (by.Refresh lifetime) = lifetime < 2 ^ 32
CanBeReported transaction_id (by.Connect connection) = connection < 2 ^ 32
CanBeReported transaction_id _ = Unit {0}

-- The reply is one that the contract of `Desk::handle` allows.
pub record IsReplied (d : DeskCall) (reply : List ℕ) : Type 0 where
  pub are_bytes : AreBytes reply
  pub served : IsServed d.bytes
  pub answer : IsAnswer d.before d.source d.bytes d.now d.stream d.decision reply d.after

-- The server core did what the contract of `Desk::handle` says, and did not run out of memory. What arrived
-- are bytes, and a response can carry the decision. Without a reply, the state is unchanged.
pub record IsHandled (d : DeskCall) : Type 0 where
  pub are_bytes : AreBytes d.bytes
  pub reported : CanBeReported (number_at d.bytes) d.decision
  pub outcome : MatchOption d.reply (d.after ≡ d.before) (IsReplied d)

-- The server core accepted the request as a user's: it replied, and it has stored this key as that of the
-- user at the source address.
pub record IsAccepted (d : DeskCall) (key : List ℕ) (algorithm : IntegrityAlgorithm) : Type 0 where
  pub reply : List ℕ
  pub replied : d.reply ≡ Some reply
  pub stored : key_at d.after.auth d.source ≡ Some (record { bytes = key; algorithm = algorithm })

-- A grant, as far as a run describes it.
abbrev pub reported_grant : granted.Grant → Grant
reported_grant g = record {
  method = g.method.0;
  number = g.number;
  from = g.from;
  transport = g.transport;
  relayed = g.relayed;
  lifetime = g.lifetime;
  peers = g.peers;
  channel = g.channel;
  connection = g.connection;
}

-- The server core made this grant in this step, by its contract.
pub record IsMade (d : DeskCall) (grant : Grant) : Type 0 where
  pub reply : List ℕ
  pub replied : d.reply ≡ Some reply
  pub made : granted.Grant
  pub reported : grant ≡ reported_grant made
  pub granted_by : IsGranted d.before d.source d.bytes d.now d.stream d.decision reply made

abbrev pub desk_words : DeskWords DeskCall
desk_words = record {
  request = λ d. d.bytes;
  source = λ d. d.source;
  realm = λ d. d.before.auth.realm;
  reply = λ d. d.reply;
  ValidatedWith = IsAccepted;
  recorded = λ d. map reported_grant d.before.grants;
  records = λ d. map reported_grant d.after.grants;
  IsGranted = IsMade;
}
