-- A client over TCP whose request for a permission was challenged, maybe more than once, and what may time out of
-- what it waits for (RFC 8489, sections 6.2.1 and 9.2.5; RFC 8656, section 10; RFC 6062, section 4.3).
use Rattle.std.specs.Prelude.{◌≡◌, ◌≢◌, ◌≤◌, ◌<◌, ◌+◌, ◌^◌, ℕ, true, List, [], ◌∷◌, Some, None, IfSome}
use Rattle.std.specs.declared.net.ip_addr.IpAddr.{IpAddr}
use Rattle.std.specs.declared.net.socket_addr.SocketAddr.{SocketAddr}
use Rattle.turn_client_proto_messages.specs.StunTypesWire.declared.algorithm.IntegrityAlgorithm.{IntegrityAlgorithm}
use Rattle.turn_client_proto_messages.specs.StunProtoClient.Challenges.{ChallengeFields}
use Rattle.turn_client_proto_messages.specs.Allocation.Awaited.{has_number}
use Rattle.turn_client_proto_messages.specs.Allocation.declared.allocation.Allocation.{Allocation}
use Rattle.turn_client_proto_messages.specs.Allocation.declared.connection.Connection.{Connection}
use Rattle.turn_client_proto_messages.specs.Allocation.declared.connection.Waiting.{Waiting}
use Rattle.turn_client_proto_messages.specs.Allocation.declared.permission.Permission.{Permission}
use Rattle.turn_client_proto_messages.specs.Api.declared.event.TurnEvent.{TurnEvent}
use Rattle.turn_client_proto_messages.specs.ReportedRequests.{IsLawfulRequest}
use Rattle.turn_client_proto_messages.specs.Waiting.{Queued}
use Rattle.turn_client_proto_messages.specs.declared.request.TurnRequest.TheVariants.{CreatePermission}
use Rattle.turn_client_proto_handshake_laws.specs.Core.declared.protocol.Protocol.{Protocol}
use Rattle.turn_client_proto_progress_laws.specs.Holders.{Holder, queued_from}
use Rattle.turn_client_proto_progress_laws.specs.Replies.{CanAnswer, challenged_by}
use Rattle.turn_client_proto_progress_laws.specs.TcpBinding.{HasRequestedConnect, IsTcpBinding, allocation_with, permission_request}

-- ---- a permission

-- The client's allocation with a pending permission for this IP. These are the transaction IDs of the requests for
-- it: the first one, and those that answer a challenge.
abbrev pub permitting_by : Holder → IpAddr → (ids : List ℕ) → Allocation
permitting_by h ip ids = allocation_with h [] (record { ip = ip; others = []; numbers = ids } ∷ []) [] [] []

-- The permission was requested, at last with this transaction ID; these messages are queued.
abbrev pub IsPermitting : Holder → IpAddr → (ids : List ℕ) → (transaction_id made : ℕ) → List Queued → (last : ℕ)
    → List TurnEvent → Protocol → Type 0
IsPermitting h ip ids transaction_id made queue last events p =
    IsTcpBinding h (Some (permission_request h ip transaction_id made)) [] (permitting_by h ip ids) queue last events p

-- ---- a challenge

-- The client answered a challenge: it stores it, and has counted one more. The request is queued again, and has
-- another transaction ID than the challenged one.
pub record HasPermissionAgain (h : Holder) (ip : IpAddr) (challenged now last : ℕ)
    (events : List TurnEvent) (reported : ChallengeFields) (old new : Protocol) : Type 0 where
  pub choice : IntegrityAlgorithm
  pub can : CanAnswer h reported choice
  pub transaction_id : ℕ
  pub fits : transaction_id < 2 ^ 96
  pub other : transaction_id ≢ challenged
  pub lawful : IsLawfulRequest (CreatePermission (ip ∷ []))
  pub counted : new.resends ≡ old.resends + 1
  pub all : List ℕ
  pub among : has_number transaction_id all ≡ true
  pub is : IsPermitting (challenged_by h reported choice) ip all transaction_id now
      (queued_from h.started.here (permission_request (challenged_by h reported choice) ip transaction_id now) ∷ [])
      last events new

pub record HasConnectAgain (h : Holder) (permissions : List Permission) (peer : SocketAddr) (challenged now last : ℕ)
    (events : List TurnEvent) (reported : ChallengeFields) (old new : Protocol) : Type 0 where
  pub choice : IntegrityAlgorithm
  pub can : CanAnswer h reported choice
  pub transaction_id : ℕ
  pub fits : transaction_id < 2 ^ 96
  pub other : transaction_id ≢ challenged
  pub counted : new.resends ≡ old.resends + 1
  pub is : HasRequestedConnect (challenged_by h reported choice) permissions peer transaction_id now last events new

-- ---- what may time out

-- The socket of each of these connections was requested from the caller.
abbrev pub AreRequestsMade : List Waiting → Type 0
AreRequestsMade [] = Unit {0}
AreRequestsMade (x ∷ rest) = (x.is_requested ≡ true) × AreRequestsMade rest

-- Each of these connections is bound, or `now` isn't after its deadline.
abbrev pub AreInTime : (now : ℕ) → List Connection → Type 0
AreInTime now [] = Unit {0}
AreInTime now (x ∷ rest) = IfSome x.awaited (λ b. now ≤ b.expiry) × AreInTime now rest
