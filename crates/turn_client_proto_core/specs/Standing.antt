-- Handling of messages after the server has allocated (RFC 8656, sections 8.3 and 7.4).
use Rattle.std.specs.Prelude.{◌≡◌, ℕ, ◌==◌, Bool, true, ◌&&◌, ◌||◌, List, [], ◌∷◌, ◌++◌, map, Option, Some, None, Result, Ok, Err, if◌then◌else◌}
use Rattle.std.specs.Bool.{MatchBool}
use Rattle.std.specs.List.{list_any}
use Rattle.stun_proto_client.specs.declared.error.LongTermClientAuthError.{LongTermClientAuthError}
use Rattle.stun_proto_client.specs.declared.error.LongTermClientAuthError.TheVariants.{NoMemory}
use Rattle.stun_proto_client.specs.declared.validation.LongTermClientValidation.{LongTermClientValidation}
use Rattle.stun_proto_client.specs.declared.validation.LongTermClientValidation.TheVariants.{ResendRequest, Validated}
use Rattle.stun_proto_agent.specs.Handling.{is_awaited, is_response}
use Rattle.stun_types_wire.specs.Attributes.{kind_at}
use Rattle.stun_types_wire.specs.Grammar.{number_at}
use Rattle.stun_types_wire.specs.Registry.{allocation_mismatch_code}
use Rattle.stun_types_wire.specs.Types.{class_of, method_of}
use Rattle.turn_types_attributes.specs.TurnRegistry.{channel_bind_method, connect_method, create_permission_method, refresh_method}
use Rattle.turn_client_proto_allocation.specs.Refreshing.{ends_by, least_of, renewed}
use Rattle.turn_client_proto_allocation.specs.PendingRequests.{addresses_for, all_reissued_under, pending_request}
use Rattle.turn_client_proto_allocation.specs.declared.allocation.Allocation.{Allocation}
use Rattle.turn_client_proto_allocation.specs.declared.pending.PendingRequest.{PendingRequest}
use Rattle.turn_client_proto_allocation.specs.declared.pending.PendingRequest.TheVariants.{ChannelRenewal, Lifetime, NewChannel, NewConnection, NewPermission, Renewal}
use Rattle.turn_client_proto_messages.specs.ReportedRequests.{IsLawfulRequest}
use Rattle.turn_client_proto_messages.specs.declared.request.TurnRequest.{TurnRequest}
use Rattle.turn_client_proto_messages.specs.declared.request.TurnRequest.TheVariants.{ChannelBind, Connect, CreatePermission, Refresh}
use Rattle.turn_client_proto_connection.specs.Reported.{answered as connections_answered, is_connect, reported_of}
use Rattle.turn_client_proto_messages.specs.Reported.{connection_reported, first_code, is_code, lifetime_reported}
use Rattle.turn_client_proto_core.specs.Asking.{requested}
use Rattle.turn_client_proto_core.specs.Attempting.{IsAttemptTaken, is_attempt}
use Rattle.turn_client_proto_core.specs.Binding.{IsBindResponded}
use Rattle.turn_client_proto_core.specs.Ending.{ended}
use Rattle.turn_client_proto_core.specs.Numbering.{IsNextNumber, after_number}
use Rattle.turn_client_proto_core.specs.Outcomes.{IsHandled, IsIgnored}
use Rattle.turn_client_proto_core.specs.Permitting.{IsPermissionResponded}
use Rattle.turn_client_proto_core.specs.Responding.{accepted, challenged, is_error_class, is_tired}
use Rattle.turn_client_proto_core.specs.declared.protocol.Phase.TheVariants.{Ended}
use Rattle.turn_client_proto_core.specs.declared.protocol.Protocol.{Protocol}

-- ---- a challenge

-- The request for something that the request `old` asks for, as it is sent again. One for new permissions names
-- each address that `old` asks for.
abbrev pub request_again : PendingRequest → (old : ℕ) → List Allocation → TurnRequest
request_again (Lifetime lifetime) old allocations = Refresh lifetime
request_again (NewChannel transport channel peer) old allocations = ChannelBind channel peer
request_again (ChannelRenewal transport channel peer) old allocations = ChannelBind channel peer
request_again (NewPermission transport ip) old allocations = CreatePermission (addresses_for old allocations)
request_again (Renewal transport ip) old allocations = CreatePermission (ip ∷ [])
request_again (NewConnection peer) old allocations = Connect peer

-- The client after it sent the request `old` again, with `transaction_id`.
unfoldable pub asks_again : PendingRequest → (old transaction_id now : ℕ) → Protocol → Protocol
asks_again what old transaction_id now p =
    record (requested (after_number p) (request_again what old p.allocations) transaction_id now) {
      allocations = all_reissued_under what old transaction_id p.allocations;
    }

-- A challenge is answered by the request, signed anew. The new transaction ID is stored along with the old
-- one.
pub record IsSentAgain (what : PendingRequest) (p : Protocol) (bytes : List ℕ) (now : ℕ) (handled : Bool) (new : Protocol)
    : Type 0 where
  pub number : ℕ
  pub is_next : IsNextNumber p number
  pub lawful : IsLawfulRequest (request_again what (number_at bytes) p.allocations)
  pub outcome : IsHandled (challenged bytes (asks_again what (number_at bytes) number now p)) handled new

-- A challenge is answered if an allocation awaits what its request asks for.
abbrev pub IsRequestedAgain : Option PendingRequest → Protocol → List ℕ → ℕ → Bool → Protocol → Type 0
IsRequestedAgain None p bytes now handled new = IsIgnored p handled new
IsRequestedAgain (Some what) p bytes now handled new = IsSentAgain what p bytes now handled new

-- The outcome of a challenge. After too many challenges the client ends. Otherwise the challenge has an
-- effect only if its transaction is outstanding.
abbrev pub IsRechallenged : Protocol → List ℕ → ℕ → Bool → Protocol → Type 0
IsRechallenged p bytes now handled new = MatchBool (is_tired p)
    (IsHandled (ended p) handled new)
    (MatchBool (is_awaited p.agent bytes)
    (IsRequestedAgain (pending_request (number_at bytes) p.allocations) p bytes now handled new)
    (IsIgnored p handled new))

-- ---- the response to a REFRESH

-- A REFRESH is granted by a success response, or by error 437 (Allocation Mismatch), which says that there is
-- no allocation (RFC 8656, section 8.3).
abbrev pub is_refreshed : List ℕ → Bool
is_refreshed bytes =
    if is_error_class (class_of (kind_at bytes)) then is_code allocation_mismatch_code (first_code bytes) else true

-- The client after its allocations were removed.
unfoldable pub deallocated : Protocol → Protocol
deallocated p = record p { phase = Ended; allocations = [] }

-- The client after a REFRESH was granted. The allocations are removed if their deletion was requested;
-- otherwise they are renewed, for the lifetime that the response reports.
unfoldable pub refreshed : List ℕ → ℕ → Protocol → Protocol
refreshed bytes now p =
    if list_any (ends_by (number_at bytes)) p.allocations then deallocated p
    else record p {
      allocations = map (renewed (least_of p.short_lifetimes) (number_at bytes) now (lifetime_reported bytes)) p.allocations;
    }

-- The client after the response to a REFRESH.
unfoldable pub after_refresh : List ℕ → ℕ → Protocol → Protocol
after_refresh bytes now p = if is_refreshed bytes then refreshed bytes now p else p

-- ---- the response to a CONNECT

-- The client after the response to a CONNECT, by what its request asks for. The CONNECTION-ID of the response
-- decides, whatever its class.
unfoldable pub after_connect : List ℕ → Protocol → Protocol
after_connect bytes p = record p {
  allocations = connections_answered (pending_request (number_at bytes) p.allocations) (connection_reported bytes)
      (number_at bytes) p.allocations;
  events = p.events ++ reported_of (pending_request (number_at bytes) p.allocations) (connection_reported bytes);
}

-- The response is for the client if its request asks for a connection.
abbrev pub IsConnectResponded : Protocol → List ℕ → Bool → Protocol → Type 0
IsConnectResponded p bytes handled new =
    (handled ≡ is_connect (pending_request (number_at bytes) p.allocations)) × (new ≡ after_connect bytes p)

-- ---- responses

-- The outcome of an accepted response, by its method.
abbrev pub IsRequestAnswered : Protocol → List ℕ → ℕ → Bool → Protocol → Type 0
IsRequestAnswered p bytes now handled new = MatchBool (method_of (kind_at bytes) == refresh_method)
    (IsHandled (after_refresh bytes now p) handled new)
    (MatchBool (method_of (kind_at bytes) == create_permission_method)
    (IsPermissionResponded p bytes now handled new)
    (MatchBool (method_of (kind_at bytes) == channel_bind_method)
    (IsBindResponded p bytes now handled new)
    (MatchBool (method_of (kind_at bytes) == connect_method)
    (IsConnectResponded p bytes handled new)
    (IsIgnored p handled new))))

-- A validated message has an effect: it is a response whose transaction is outstanding, or a
-- CONNECTION_ATTEMPT request.
abbrev pub counts : Protocol → List ℕ → Bool
counts p bytes = (is_response bytes && is_awaited p.agent bytes) || is_attempt bytes

-- The outcome of a validated message. A response is accepted if its transaction is outstanding; of the
-- requests, only CONNECTION_ATTEMPT has an effect.
abbrev pub IsTakenUp : Protocol → List ℕ → ℕ → Bool → Protocol → Type 0
IsTakenUp p bytes now handled new = MatchBool (is_response bytes && is_awaited p.agent bytes)
    (IsRequestAnswered (accepted bytes p) bytes now handled new)
    (IsAttemptTaken p bytes handled new)

-- The outcome of a request or a response, by the verdict on it.
abbrev pub IsJudgedStanding : Result LongTermClientValidation LongTermClientAuthError
    → Protocol → List ℕ → ℕ → Bool → Protocol → Type 0
IsJudgedStanding (Ok (ResendRequest choice)) p bytes now handled new = IsRechallenged p bytes now handled new
IsJudgedStanding (Ok (Validated algorithm)) p bytes now handled new = IsTakenUp p bytes now handled new
IsJudgedStanding (Err NoMemory) p bytes now handled new = ⊥
IsJudgedStanding (Err error) p bytes now handled new = IsIgnored p handled new
