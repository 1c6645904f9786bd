-- A client that holds one allocation, and nothing else, and awaits the response to a REFRESH, also after the
-- server challenged earlier ones (RFC 8489, section 9.2.5; RFC 8656, sections 8.1 to 8.3).
use Rattle.std.specs.Prelude.{◌≡◌, ◌≢◌, ◌≤◌, ◌<◌, ◌^◌, ◌++◌, ℕ, max, List, [], ◌∷◌, map, length, Some}
use Rattle.std.specs.declared.net.socket_addr.SocketAddr.{SocketAddr}
use Rattle.turn_client_proto_messages.specs.StunTypesWire.declared.algorithm.IntegrityAlgorithm.{IntegrityAlgorithm}
use Rattle.turn_client_proto_messages.specs.StunTypesWire.Grammar.{number_at}
use Rattle.turn_client_proto_messages.specs.StunProtoClient.Challenges.{ChallengeFields, challenge_visible}
use Rattle.turn_client_proto_messages.specs.Allocation.declared.refresh.PendingRefresh.{PendingRefresh}
use Rattle.turn_client_proto_messages.specs.Api.declared.answer.TurnPollRet.{TurnPollRet}
use Rattle.turn_client_proto_messages.specs.Api.declared.answer.TurnPollRet.TheVariants.{WaitUntil}
use Rattle.turn_client_proto_messages.specs.Api.declared.event.TurnEvent.{TurnEvent}
use Rattle.turn_client_proto_messages.specs.Api.Options.{allocation_lifetime}
use Rattle.turn_client_proto_messages.specs.Waiting.{Queued}
use Rattle.turn_client_proto_handshake_laws.specs.Requested.{IsOnlyRequested}
use Rattle.turn_client_proto_handshake_laws.specs.Choosing.{Choice, IsAnsweredBy}
use Rattle.turn_client_proto_handshake_laws.specs.Sent.{Beginning}
use Rattle.turn_client_proto_handshake_laws.specs.Stages.{IsOf}
use Rattle.turn_client_proto_handshake_laws.specs.Core.Asking.{queued_request}
use Rattle.turn_client_proto_handshake_laws.specs.Core.declared.protocol.Phase.TheVariants.{Authenticated}
use Rattle.turn_client_proto_handshake_laws.specs.Core.declared.protocol.Protocol.{Protocol}
use Rattle.turn_client_proto_progress_laws.specs.Keeping.{Term, held_for, next_of}
use Rattle.turn_client_proto_progress_laws.specs.Refreshed.{refresh_request, refresh_requested, signed_by}

-- The REFRESH with this transaction ID, and those with these, as the allocation lists them.
abbrev pub request_made_as : (transaction_id : ℕ) → PendingRefresh
request_made_as transaction_id = record { number = transaction_id; lifetime = allocation_lifetime }

abbrev pub request_made_by : (transaction_ids : List ℕ) → List PendingRefresh
request_made_by transaction_ids = map request_made_as transaction_ids

-- The REFRESH as it is queued.
abbrev pub refresh_queued : Beginning → Choice → (transaction_id : ℕ) → Queued
refresh_queued b c transaction_id = queued_request b.here (refresh_request b c transaction_id)

-- The client holds that allocation and nothing else, and a REFRESH with this transaction ID is the only
-- outstanding request. It was made at `made`, and counts as transmitted `many` times; the last message was
-- transmitted at `last`. The server challenged the REFRESHs with the transaction IDs `earlier`, in that order,
-- since it last granted a request. These messages and events are queued.
pub record IsRefreshingOn (b : Beginning) (c : Choice) (address : SocketAddr) (t : Term) (earlier : List ℕ)
    (transaction_id made many last : ℕ) (queue : List Queued) (events : List TurnEvent) (p : Protocol) : Type 0 where
  pub settings : IsOf b p
  pub requested : IsOnlyRequested b (refresh_requested b c transaction_id made) many p.agent
  pub phase : p.phase ≡ Authenticated
  pub auth : p.auth ≡ signed_by b c
  pub allocations : p.allocations ≡ held_for b address t (request_made_by (earlier ++ transaction_id ∷ [])) ∷ []
  pub queue_is : p.queue ≡ queue
  pub last_send : p.last_send ≡ Some last
  pub events_are : p.events ≡ events
  pub closing : p.closing ≡ []
  pub resends : p.resends ≡ length earlier

-- A client answers this many challenges in a row, with no granted request between them; the next one ends it.
abbrev pub most_challenges : ℕ
most_challenges = 9

-- The message is this challenge, and answers the REFRESH with this transaction ID.
pub record IsRefreshChallenge (reported : ChallengeFields) (transaction_id : ℕ) (bytes : List ℕ) : Type 0 where
  pub number_is : number_at bytes ≡ transaction_id
  pub visible : challenge_visible bytes ≡ Some reported

-- The choice by which a client answers another challenge.
abbrev pub rechosen : Choice → ChallengeFields → IntegrityAlgorithm → Choice
rechosen c reported algorithm = record { reported = reported; algorithm = algorithm; number = c.number; made = c.made }

-- The REFRESH was challenged, and another one is queued: with another transaction ID, under the challenge's
-- realm and nonce. Its schedule begins at `now`, and it counts as transmitted once from the start.
pub record IsRefreshedAgain (b : Beginning) (c : Choice) (reported : ChallengeFields) (address : SocketAddr) (t : Term)
    (earlier : List ℕ) (transaction_id now last : ℕ) (queue : List Queued) (events : List TurnEvent) (p : Protocol)
    : Type 0 where
  pub algorithm : IntegrityAlgorithm
  pub answered : IsAnsweredBy b.config reported algorithm
  pub number : ℕ
  pub fits : number < 2 ^ 96
  pub other : number ≢ transaction_id
  pub refreshing : IsRefreshingOn b (rechosen c reported algorithm) address t (earlier ++ transaction_id ∷ []) number
      now 1 last (queue ++ refresh_queued b (rechosen c reported algorithm) number ∷ []) events p

-- `poll` returned `WaitUntil` a time, and nothing changed. That time is not after the next transmission, or
-- now if that has passed.
pub record WaitsOn (t : Term) (last : ℕ) (queue : List Queued) (now : ℕ) (old : Protocol) (ret : TurnPollRet)
    (new : Protocol) : Type 0 where
  pub time : ℕ
  pub answer_is : ret ≡ WaitUntil time
  pub by_next : time ≤ max now (next_of t last queue)
  pub unchanged : new ≡ old
