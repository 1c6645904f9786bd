-- A client that holds the allocation of its handshake, and what its requests are.
use Rattle.std.proofs.Common.{◌≡◌, ℕ, ◌<◌, ◌^◌, true, List, Some, None, refl, sym, ap, ◌∙◌, subst}
use Rattle.std.specs.declared.net.socket_addr.SocketAddr.{SocketAddr}
use Rattle.turn_client_proto_messages.specs.StunTypesWire.Attributes.{kind_at}
use Rattle.turn_client_proto_messages.specs.StunTypesWire.Grammar.{number_at, refusal}
use Rattle.turn_client_proto_messages.specs.StunTypesWire.declared.class.MessageClass.TheVariants.{Request}
use Rattle.turn_client_proto_messages.specs.StunTypesWire.Types.{class_of, method_of}
use Rattle.turn_client_proto_messages.specs.StunProtoAuth.Claims.{claimed}
use Rattle.turn_client_proto_messages.specs.StunProtoClient.Challenges.{list_for_choice}
use Rattle.turn_client_proto_messages.specs.StunProtoClient.Client as auth
use Rattle.turn_client_proto_messages.specs.StunProtoClient.ClientValidation.{going_by}
use Rattle.turn_client_proto_messages.specs.StunProtoAuth.declared.feature.Feature.{Feature}
use Rattle.turn_client_proto_messages.specs.Allocation.declared.allocation.Allocation.{Allocation}
use Rattle.turn_client_proto_messages.specs.Api.declared.event.TurnEvent.{TurnEvent}
use Rattle.turn_client_proto_messages.specs.OwnClaims.{own_claim}
use Rattle.turn_client_proto_messages.specs.ReadTexts.{HasReadTexts}
use Rattle.turn_client_proto_messages.specs.Requests.{is_signed, request_method, request_text, request_type}
use Rattle.turn_client_proto_messages.specs.ShortTexts.{HasShortTexts}
use Rattle.turn_client_proto_messages.specs.ReportedRequests.{IsLawfulRequest}
use Rattle.turn_client_proto_messages.specs.declared.request.TurnRequest.{TurnRequest}
use Rattle.turn_client_proto_messages.specs.Waiting.{Queued}
use Rattle.turn_client_proto_handshake_laws.specs.Core.declared.protocol.Phase.{Phase}
use Rattle.turn_client_proto_handshake_laws.specs.Core.declared.protocol.Protocol.{Protocol}
use Rattle.turn_client_proto_handshake_laws.specs.Choosing.{Choice, signer_by}
use Rattle.turn_client_proto_handshake_laws.specs.Stages.{Holds}
use Rattle.turn_client_proto_handshake_laws.specs.Sent.{Beginning}
use Rattle.turn_client_proto_progress_laws.specs.Asking.{APermission, AChannel, HasMadeRequest, Wanted, request_for}
use Rattle.turn_client_proto_progress_laws.specs.Holding.{IsOwnRequest}
use Rattle.turn_client_proto_progress_laws.specs.Speaking.{HasAtMost, HasBeenServed, Signs, Speaks, standing_under}

-- ---- the client after its handshake

signs_so : (b : Beginning) (c : Choice) → HasShortTexts (signer_by b c) → HasReadTexts (signer_by b c) → Signs b c.reported.realm (going_by (signer_by b c) (Some c.algorithm))
signs_so b c short read = record {
  account = refl;
  settled = refl;
  hides = refl;
  algorithms = refl;
  hardened = refl;
  challenge = record { realm = c.reported.realm; nonce = c.reported.nonce; offered = list_for_choice b.config.hardened c.reported; choice = c.algorithm };
  stored = refl;
  realm_is = refl;
  short = record { username = short.username; next = short.next; software = short.software; challenge = short.challenge };
  read = record { username = read.username; next = read.next; challenge = read.challenge; known = read.known };
}

pub holder_speaks : (b : Beginning) (c : Choice) (address : SocketAddr) (lifetime made last : ℕ) (queue : List Queued) (events : List TurnEvent) (p : Protocol) → HasShortTexts (signer_by b c) → HasReadTexts (signer_by b c)
    → Holds b c address lifetime made last queue events p → Speaks b c.reported.realm address p
holder_speaks b c address lifetime made last queue events p short read h = record {
  settings = h.settings;
  signs = subst (λ (x : auth.Client). Signs b c.reported.realm x) (sym h.auth) (signs_so b c short read);
  served = subst (λ (f : Phase). HasBeenServed f) (sym h.phase) tt;
  one = subst (λ (l : List Allocation). HasAtMost b address l) (sym h.allocations) (record { transport = refl; address_is = refl });
}

-- ---- its requests

signed_so : (wanted : Wanted) → is_signed (request_for wanted) ≡ true
signed_so (APermission ip) = refl
signed_so (AChannel channel peer) = refl

class_so : (wanted : Wanted) → class_of (request_type (request_for wanted)) ≡ Request
class_so (APermission ip) = refl
class_so (AChannel channel peer) = refl

method_so : (wanted : Wanted) → method_of (request_type (request_for wanted)) ≡ request_method (request_for wanted)
method_so (APermission ip) = refl
method_so (AChannel channel peer) = refl

-- What its requests claim, by the lemma on a client's requests.
abbrev pub DoClaim : Type 0
DoClaim = (client : auth.Client) (request : TurnRequest) (number : ℕ) (standing : auth.Standing) → HasShortTexts client → HasReadTexts client → IsLawfulRequest request → number < 2 ^ 96 → is_signed request ≡ true
    → auth.standing_of client ≡ Some standing → claimed (request_text client request number) ≡ own_claim client.anonymous_username standing

-- What its requests are.
pub record AreRead : Type 0 where
  pub message : (client : auth.Client) (request : TurnRequest) (number : ℕ) → HasShortTexts client → IsLawfulRequest request → number < 2 ^ 96 → refusal (request_text client request number) ≡ None
  pub number : (client : auth.Client) (request : TurnRequest) (number : ℕ) → HasShortTexts client → IsLawfulRequest request → number < 2 ^ 96 → number_at (request_text client request number) ≡ number
  pub kind : (client : auth.Client) (request : TurnRequest) (number : ℕ) → HasShortTexts client → IsLawfulRequest request → number < 2 ^ 96 → kind_at (request_text client request number) ≡ request_type request

module _ (b : Beginning) (realm : List ℕ) (address : SocketAddr) (wanted : Wanted) (request : List ℕ) (until beyond : ℕ) (Counts : ℕ → Type 0) (p : Protocol) (h : HasMadeRequest b realm address wanted request until beyond Counts p) where
  abbrev standing : auth.Standing
  standing = standing_under b h.speaks.signs.challenge

  occurs : auth.standing_of p.auth ≡ Some standing
  occurs = Prim.cc (h.speaks.signs.account, h.speaks.signs.stored)

  pub claims_own : DoClaim → claimed request ≡ own_claim p.auth.anonymous_username standing
  claims_own claim = ap claimed h.text ∙ claim p.auth (request_for wanted) h.number standing h.speaks.signs.short h.speaks.signs.read h.lawful h.fits (signed_so wanted) occurs

  pub shows_number : AreRead → number_at request ≡ h.number
  shows_number read = ap number_at h.text ∙ read.number p.auth (request_for wanted) h.number h.speaks.signs.short h.lawful h.fits

  shows_kind : AreRead → kind_at request ≡ request_type (request_for wanted)
  shows_kind read = ap kind_at h.text ∙ read.kind p.auth (request_for wanted) h.number h.speaks.signs.short h.lawful h.fits

  pub shows_method : AreRead → method_of (kind_at request) ≡ request_method (request_for wanted)
  shows_method read = ap method_of (shows_kind read) ∙ method_so wanted

  pub is_own : AreRead → DoClaim → IsOwnRequest b realm wanted request
  is_own read claim = record {
    message = ap refusal h.text ∙ read.message p.auth (request_for wanted) h.number h.speaks.signs.short h.lawful h.fits;
    class = ap class_of (shows_kind read) ∙ class_so wanted;
    method = shows_method read;
    challenge = h.speaks.signs.challenge;
    realm_is = h.speaks.signs.realm_is;
    claims = claims_own claim ∙ ap (λ (f : Feature). own_claim f standing) h.speaks.signs.hides;
  }
