-- A client whose request for a permission or a channel is challenged, and made again (RFC 8489, section 9.2.5).
use Rattle.std.specs.Prelude.{◌≡◌, ◌≢◌, ◌≤◌, ◌+◌, ◌++◌, ℕ, List, [], ◌∷◌, Some}
use Rattle.std.specs.declared.net.socket_addr.SocketAddr.{SocketAddr}
use Rattle.turn_client_proto_messages.specs.StunTypesWire.Grammar.{number_at}
use Rattle.turn_client_proto_messages.specs.StunTypesWire.declared.algorithm.IntegrityAlgorithm.{IntegrityAlgorithm}
use Rattle.turn_client_proto_messages.specs.StunProtoAuth.Claims.{claimed}
use Rattle.turn_client_proto_messages.specs.StunProtoClient.Challenges.{ChallengeFields, challenge_visible}
use Rattle.turn_client_proto_messages.specs.StunProtoClient.ClientValidation.{IsAnswerable}
use Rattle.turn_client_proto_handshake_laws.specs.Core.Asking.{queued_request}
use Rattle.turn_client_proto_handshake_laws.specs.Core.Responding.{most_resends}
use Rattle.turn_client_proto_handshake_laws.specs.Core.declared.protocol.Protocol.{Protocol}
use Rattle.turn_client_proto_handshake_laws.specs.Sent.{Beginning}
use Rattle.turn_client_proto_progress_laws.specs.Asking.{HasMadeRequest, IsMade, Wanted}

-- ---- a challenge

-- The message is this challenge, of this realm, and answers this request.
pub record IsChallengeTo (realm request : List ℕ) (reported : ChallengeFields) (message : List ℕ) : Type 0 where
  pub number : number_at message ≡ number_at request
  pub visible : challenge_visible message ≡ Some reported
  pub realm_is : reported.realm ≡ realm

-- The client can answer this challenge by some algorithm, and may answer so many more in a row, with no accepted
-- response between them. It ends at the tenth in a row.
pub record MayAnswer (reported : ChallengeFields) (times : ℕ) (p : Protocol) : Type 0 where
  pub choice : IntegrityAlgorithm
  pub can : IsAnswerable p.auth reported choice
  pub few : p.resends + times ≤ most_resends + 1

-- The number of challenges that the client answered in a row is this one.
abbrev pub Counted : (challenges : ℕ) → (count : ℕ) → Type 0
Counted challenges count = count ≡ challenges

-- The client has made another request for the same, with another transaction ID, signed under the challenge, which it
-- stores now. It is queued last, and the challenge is counted.
pub record IsMadeAgain (b : Beginning) (realm : List ℕ) (address : SocketAddr) (wanted : Wanted) (old_request : List ℕ)
    (reported : ChallengeFields) (until beyond : ℕ) (old new : Protocol) : Type 0 where
  pub request : List ℕ
  pub asks : HasMadeRequest b realm address wanted request until beyond (Counted (old.resends + 1)) new
  pub made : IsMade old new request
  pub other : number_at request ≢ number_at old_request
  pub nonce : (claimed request).nonce ≡ Some reported.nonce
  pub queue_is : new.queue ≡ old.queue ++ queued_request b.here request ∷ []
  pub resends_is : new.resends ≡ old.resends + 1
