-- An established client: one that the server has allocated to, and that stores a challenge of the server's
-- realm (RFC 8489, section 9.2.5; RFC 8656, section 7.3).
use Rattle.std.specs.Prelude.{◌≡◌, ◌<◌, false, List, [], ◌∷◌, ℕ, None, Some}
use Rattle.std.specs.declared.net.socket_addr.SocketAddr.{SocketAddr}
use Rattle.turn_client_proto_messages.specs.StunProtoClient.Challenges.{ChallengeFields, challenge_visible}
use Rattle.turn_client_proto_messages.specs.StunProtoClient.Client.{Challenge, Client, Standing}
use Rattle.turn_client_proto_messages.specs.Allocation.declared.allocation.Allocation.{Allocation}
use Rattle.turn_client_proto_messages.specs.TurnRuns.Members.{IsIn}
use Rattle.turn_client_proto_messages.specs.ReadTexts.{HasReadTexts}
use Rattle.turn_client_proto_messages.specs.ShortTexts.{HasShortTexts}
use Rattle.turn_client_proto_handshake_laws.specs.Core.declared.protocol.Phase.{Phase}
use Rattle.turn_client_proto_handshake_laws.specs.Core.declared.protocol.Phase.TheVariants.{Initial, InitialSent, Authenticating}
use Rattle.turn_client_proto_handshake_laws.specs.Core.declared.protocol.Phase.TheVariants.{Authenticated, Ended}
use Rattle.turn_client_proto_handshake_laws.specs.Core.declared.protocol.Protocol.{Protocol}
use Rattle.turn_client_proto_handshake_laws.specs.Stages.{IsOf}
use Rattle.turn_client_proto_handshake_laws.specs.Sent.{Beginning}

-- What a client signs by: the credentials of its settings, with no others for the next challenge, and a stored
-- challenge of this realm. Their texts fit into a request, and can be decoded from it. It answers challenges by its
-- settings.
pub record Signs (b : Beginning) (realm : List ℕ) (auth : Client) : Type 0 where
  pub account : auth.account ≡ Some b.config.credentials
  pub settled : auth.next_account ≡ None
  pub hides : auth.anonymous_username ≡ b.config.anonymous_username
  pub algorithms : auth.algorithms ≡ b.config.algorithms
  pub hardened : auth.hardened ≡ b.config.hardened
  pub challenge : Challenge
  pub stored : auth.challenge ≡ Some challenge
  pub realm_is : challenge.realm ≡ realm
  pub short : HasShortTexts auth
  pub read : HasReadTexts auth

-- The client's credentials, and that challenge, under which it uses them.
abbrev pub standing_under : Beginning → Challenge → Standing
standing_under b challenge = record { account = b.config.credentials; challenge = challenge }

-- The server has allocated; the client may have ended since.
abbrev pub HasBeenServed : Phase → Type 0
HasBeenServed Initial = ⊥
HasBeenServed (InitialSent numbers) = ⊥
HasBeenServed (Authenticating numbers) = ⊥
HasBeenServed Authenticated = Unit {0}
HasBeenServed Ended = Unit {0}

-- The allocation is that of the client's settings, with this relayed address.
pub record IsOwn (b : Beginning) (address : SocketAddr) (a : Allocation) : Type 0 where
  pub transport : a.transport ≡ b.config.transport
  pub address_is : a.address ≡ address

-- The client has at most that one allocation.
abbrev pub HasAtMost : Beginning → SocketAddr → List Allocation → Type 0
HasAtMost b address [] = Unit {0}
HasAtMost b address (a ∷ []) = IsOwn b address a
HasAtMost b address (a ∷ other ∷ rest) = ⊥

-- A client of these settings is established: this address was allocated to it, and it signs by a challenge of
-- this realm.
pub record Speaks (b : Beginning) (realm : List ℕ) (address : SocketAddr) (p : Protocol) : Type 0 where
  pub settings : IsOf b p
  pub signs : Signs b realm p.auth
  pub served : HasBeenServed p.phase
  pub one : HasAtMost b address p.allocations

-- No allocation of the client is marked as expired, and each ends later than `now`.
abbrev pub AreHeldBeyond : (now : ℕ) → List Allocation → Type 0
AreHeldBeyond now allocations = (a : Allocation) → IsIn a allocations → (a.is_expired ≡ false) × (now < a.expiry)

-- If the message is a challenge, it is of this realm.
abbrev pub ReportsRealm : (realm message : List ℕ) → Type 0
ReportsRealm realm message = (reported : ChallengeFields) → challenge_visible message ≡ Some reported → reported.realm ≡ realm
