-- What a server core that is asked stores, and how it grants the request of its user.
use Rattle.std.proofs.Common.{◌≡◌, ℕ, Bool, true, false, List, [], ◌∷◌, ◌++◌, Option, Some, None, refl, sym, ap, ◌∙◌, subst, inl, inr}
use Rattle.std.specs.Prelude.{if◌then◌else◌}
use Rattle.std.specs.FinMap as map
use Rattle.std.proofs.lemmas.Bool.{cases_Bool}
use Rattle.std.specs.declared.net.socket_addr.SocketAddr.{SocketAddr}
use Rattle.rand_core.specs.Stream.{Stream}
use Rattle.turn_desk_core.specs.StunTypesWire.Attributes.{kind_at}
use Rattle.turn_desk_core.specs.StunTypesWire.declared.algorithm.IntegrityAlgorithm.{IntegrityAlgorithm}
use Rattle.turn_desk_core.specs.StunTypesWire.declared.class.MessageClass.{MessageClass}
use Rattle.turn_desk_core.specs.StunTypesWire.declared.class.MessageClass.TheVariants.{Error, Success}
use Rattle.turn_desk_core.specs.StunTypesMessage.Objections.{error_type}
use Rattle.turn_desk_core.specs.StunTypesWire.Types.{class_of, method_of, type_of}
use Rattle.turn_desk_core.specs.StunTypesWire.Attributes.{Attr}
use Rattle.turn_desk_core.specs.StunTypesWire.Grammar.{refusal, visible}
use Rattle.turn_desk_core.specs.StunTypesWire.declared.algorithm.IntegrityAlgorithm.TheVariants.{Sha1, Sha256, Sha512}
use Rattle.turn_desk_core.specs.StunTypesWire.Registry.{bad_request_code, longest_text, realm_kind}
use Rattle.turn_client_proto_messages.specs.StunTypesIntegrity.Signing.{signature}
use Rattle.turn_client_proto_messages.specs.StunProtoClient.Challenges.{ChallengeFields, asks_again, challenge_visible, decoded_by, reported_of}
use Rattle.turn_client_proto_api.specs.StunProtoAuth.Claims.{last_of_kind, text_decoded}
use Rattle.turn_desk_core.specs.StunProtoVerify.declared.error.LongTermServerAuthError.{LongTermServerAuthError}
use Rattle.turn_desk_core.specs.StunProtoVerify.declared.error.LongTermServerAuthError.TheVariants.{BadRequest, IntegrityFailed, NoMemory, StaleNonce, Unauthorized}
use Rattle.turn_client_proto_messages.specs.TurnRuns.Indications.{is_indication}
use Rattle.turn_client_proto_progress_laws.specs.Speaking.{ReportsRealm}
use Rattle.turn_client_proto_progress_laws.proofs.Asking.Tools.{no_challenge}
use Rattle.turn_desk_core.specs.Replies.{failure_attributes}
use Rattle.turn_desk_core.specs.Steps.{refusal_attributes, unvalidated_party}
use Rattle.turn_desk_step_laws.specs.Challenged.{challenge_of}
use Rattle.turn_desk_step_laws.proofs.Reported.{challenge_read}
use Rattle.turn_desk_core.specs.StunTypesAuthAttributes.Userhashes.{userhash_of}
use Rattle.turn_client_proto_api.specs.StunProtoAuth.Claims.{Claimed, claimed}
use Rattle.turn_client_proto_messages.specs.StunProtoClient.Client.{account_key}
use Rattle.turn_client_proto_messages.specs.StunProtoClient.ClientSigning.{hides_name}
use Rattle.turn_client_proto_messages.specs.StunProtoClient.Digests.{IsRight}
use Rattle.turn_desk_core.specs.StunProtoVerify.Knowledge.{Named, Outcome}
use Rattle.turn_desk_core.specs.StunProtoServer.Server.{Server, has_standing_nonce, refreshed, with_new_nonce, with_outcome}
use Rattle.turn_desk_core.specs.StunProtoServer.Users.{HashesDiffer, IsClaimedName, Names}
use Rattle.turn_desk_core.proofs.StunProtoServer.Named.{same_users}
use Rattle.turn_client_proto_handshake_laws.specs.Sent.{Beginning}
use Rattle.turn_client_proto_progress_laws.specs.Asking.{Wanted}
use Rattle.turn_client_proto_progress_laws.specs.Holding.{IsGrantOf, IsOwnRequest}
use Rattle.turn_desk_core.proofs.Methods.{by_method}
use Rattle.turn_desk_step_laws.proofs.Answering.{hashes_differ_still}
use Rattle.turn_desk_event.specs.declared.answer.Answer.{Answer}
use Rattle.turn_desk_event.specs.declared.answer.Answer.TheVariants as answer
use Rattle.turn_desk_core.specs.declared.decision.Decision.{Decision}
use Rattle.turn_desk_world_laws.specs.World.Desks.{IsDeskAnswered, IsReply, words_of}
use Rattle.turn_desk_core.specs.Requests.{IsServed}
use Rattle.turn_desk_core.specs.State.{State}
use Rattle.turn_desk_core.specs.Steps.{IsAnswer, IsChallenge, IsVerdict}
use Rattle.turn_desk_core.specs.Verdicts.{reply_type, verdict_on}
use Rattle.turn_desk_core.specs.declared.verdict.Verdict.{Verdict}
use Rattle.turn_desk_core.specs.declared.verdict.Verdict.TheVariants.{Fails, Allocates, Refreshes, Permits, Binds, Connects, Joins}
use Rattle.turn_desk_core.specs.Replies.{success_type}

-- ---- what stays

-- The server core has the client's user and this realm, and no two users with the same hash.
pub record IsDeskOf (b : Beginning) (realm : List ℕ) (d : State) : Type 0 where
  pub realm_is : d.auth.realm ≡ realm
  pub user : map.get d.auth.users b.config.credentials.username ≡ Some b.config.credentials.password
  pub hashes : HashesDiffer d.auth

-- The realm and the users are unchanged.
pub record SameUsers (old new : Server) : Type 0 where
  pub realm : new.realm ≡ old.realm
  pub users : new.users ≡ old.users

with_outcome_same : (old : Server) (from : SocketAddr) (now : ℕ) (stream : Stream) (outcome : Option Outcome) → SameUsers old (with_outcome (refreshed old from now stream) from outcome)
with_outcome_same old from now stream outcome =
    elim (has_standing_nonce old from now) as (λ (x : Bool). SameUsers old (with_outcome (if x then old else with_new_nonce old from now stream) from outcome)) [
      | true ↦ record { realm = refl; users = refl }
      | false ↦ record { realm = refl; users = refl }
    ]

refreshed_same : (old : Server) (from : SocketAddr) (now : ℕ) (stream : Stream) → SameUsers old (refreshed old from now stream)
refreshed_same old from now stream =
    elim (has_standing_nonce old from now) as (λ (x : Bool). SameUsers old (if x then old else with_new_nonce old from now stream)) [
      | true ↦ record { realm = refl; users = refl }
      | false ↦ record { realm = refl; users = refl }
    ]

answered_same : (old new : State) (from : SocketAddr) (bytes reply : List ℕ) (now : ℕ) (stream : Stream) (decision : Decision) → IsAnswer old from bytes now stream decision reply new → SameUsers old.auth new.auth
answered_same old new from bytes reply now stream decision (inl a) = subst (λ (s : Server). SameUsers old.auth s) (sym a.judged.after) (with_outcome_same old.auth from now stream None)
answered_same old new from bytes reply now stream decision (inr a) =
    subst (λ (s : Server). SameUsers old.auth s) (sym a.judged.after) (with_outcome_same old.auth from now stream (Some (record { name = a.name; algorithm = a.algorithm })))

module _ (b : Beginning) (realm : List ℕ) (old new : State) (is : IsDeskOf b realm old) where
  still : (from : SocketAddr) (bytes reply : List ℕ) (now : ℕ) (stream : Stream) (decision : Decision) → IsAnswer old from bytes now stream decision reply new → IsDeskOf b realm new
  still from bytes reply now stream decision answered =
      let same = answered_same old new from bytes reply now stream decision answered in
      record {
        realm_is = same.realm ∙ is.realm_is;
        user = ap (λ m. map.get m b.config.credentials.username) same.users ∙ is.user;
        hashes = hashes_differ_still old new from bytes reply now stream decision is.hashes answered;
      }

  by_reply : (ret : Answer) (bytes : List ℕ) (from : SocketAddr) (now : ℕ) (decision : Decision) (seed : List ℕ) → IsReply ret old bytes from now decision seed new → IsDeskOf b realm new
  by_reply (answer.Reply reply) bytes from now decision seed r = still from bytes reply.items now (words_of seed) decision r.answer
  by_reply answer.Nothing bytes from now decision seed r = subst (λ (d : State). IsDeskOf b realm d) (sym r.1) is
  by_reply _ bytes from now decision seed r = absurd r

  pub desk_stays : (ret : Answer) (bytes : List ℕ) (from : SocketAddr) (now : ℕ) (decision : Decision) (seed : List ℕ) → IsDeskAnswered ret old bytes from now decision seed new → IsDeskOf b realm new
  desk_stays ret bytes from now decision seed r = by_reply ret bytes from now decision seed r.reply

-- ---- what it grants

-- The types of replies.
record IsTyped (mtype method : ℕ) : Type 0 where
  class : class_of mtype ≡ Success
  same : method_of mtype ≡ method

success_typed : (bytes : List ℕ) → IsServed bytes → IsTyped (success_type bytes) (method_of (kind_at bytes))
success_typed bytes served = by_method (λ (m : ℕ). IsTyped (type_of Success m) m) (record {
  allocate = record { class = refl; same = refl };
  refresh = record { class = refl; same = refl };
  create_permission = record { class = refl; same = refl };
  channel_bind = record { class = refl; same = refl };
  connect = record { class = refl; same = refl };
  connection_bind = record { class = refl; same = refl };
}) (method_of (kind_at bytes)) served.method

error_class : (bytes : List ℕ) → IsServed bytes → class_of (error_type bytes) ≡ Error
error_class bytes served = by_method (λ (m : ℕ). class_of (type_of Error m) ≡ Error) (record {
  allocate = refl;
  refresh = refl;
  create_permission = refl;
  channel_bind = refl;
  connect = refl;
  connection_bind = refl;
}) (method_of (kind_at bytes)) served.method

no_success : {A : Type 0} (class : MessageClass) → class ≡ Success → class ≡ Error → A
no_success class one other = absurd (Prim.cc (sym one ∙ other))

-- If the reply to a request is a success response, its type is that of the request's success response.
typed_success : (bytes : List ℕ) (what : Verdict) → IsServed bytes → class_of (reply_type bytes what) ≡ Success → reply_type bytes what ≡ success_type bytes
typed_success bytes (Fails code) served success = no_success (class_of (error_type bytes)) success (error_class bytes served)
typed_success bytes (Allocates transport relayed lifetime) served success = refl
typed_success bytes (Refreshes lifetime) served success = refl
typed_success bytes (Permits peers) served success = refl
typed_success bytes (Binds channel peer) served success = refl
typed_success bytes (Connects peer connection) served success = refl
typed_success bytes (Joins connection) served success = refl

module _ (b : Beginning) (realm : List ℕ) (wanted : Wanted) (request : List ℕ) (own : IsOwnRequest b realm wanted request) (old new : State) (is : IsDeskOf b realm old) where
  -- Whether the request hides its user's name.
  abbrev hidden : Bool
  hidden = hides_name b.config.anonymous_username own.challenge.nonce

  abbrev user : Named
  user = record { name = b.config.credentials.username; password = b.config.credentials.password }

  named_by : (x : Bool) (r name : List ℕ) → IsClaimedName r (if x then None else Some name) (if x then Some (userhash_of name r) else None) name
  named_by true r name = refl
  named_by false r name = refl

  names_user : Names old.auth (claimed request) user
  names_user = record {
    present = is.user;
    named = subst (λ (c : Claimed). IsClaimedName old.auth.realm c.username c.user_hash b.config.credentials.username) (sym own.claims)
        (subst (λ (r : List ℕ). IsClaimedName r (if hidden then None else Some b.config.credentials.username) (if hidden then Some (userhash_of b.config.credentials.username own.challenge.realm) else None) b.config.credentials.username)
        (own.realm_is ∙ sym is.realm_is) (named_by hidden own.challenge.realm b.config.credentials.username));
  }

  pub grants_own : (from : SocketAddr) (reply : List ℕ) (now : ℕ) (stream : Stream) (decision : Decision) → IsServed request → class_of (kind_at reply) ≡ Success → IsAnswer old from request now stream decision reply new → IsGrantOf b realm request reply
  grants_own from reply now stream decision served success (inl a) = no_success (class_of (kind_at reply)) success (ap class_of a.read.kind ∙ error_class request served)
  grants_own from reply now stream decision served success (inr a) =
      let what = verdict_on request decision in
      let same = refreshed_same old.auth from now stream in
      let they : Named = record { name = a.name; password = a.password } in
      let names_them : Names old.auth (claimed request) they = record {
        present = a.present;
        named = subst (λ (r : List ℕ). IsClaimedName r (claimed request).username (claimed request).user_hash a.name) same.realm a.judged.accepts.named.named;
      } in
      let one : they ≡ user = same_users old.auth (claimed request) they user (λ none. is.hashes) names_them names_user in
      let typed : reply_type request what ≡ success_type request = typed_success request what served (sym (ap class_of a.read.kind) ∙ success) in
      record {
        message = a.read.message;
        number = a.read.number;
        method = ap method_of (a.read.kind ∙ typed) ∙ (success_typed request served).same;
        success = success;
        algorithm = a.algorithm;
        signed = a.judged.accepts.judged.last;
        right = subst (λ (r : List ℕ). IsRight reply (account_key b.config.credentials r a.algorithm)) is.realm_is
            (subst (λ (n : Named). IsRight reply (account_key (record { username = n.name; password = n.password }) old.auth.realm a.algorithm)) one (record { text = _; validates = a.valid }));
      }

-- ---- what it replies

-- The reply is a message and no indication, and names the realm if it is a challenge.
pub record IsReplyOf (realm reply : List ℕ) : Type 0 where
  pub message : refusal reply ≡ None
  pub answers : is_indication (class_of (kind_at reply)) ≡ false
  pub decodes : ReportsRealm realm reply

no_realm : (reply : List ℕ) → (claimed reply).realm ≡ None → challenge_visible reply ≡ None
no_realm reply none = elim (cases_Bool (asks_again reply)) [
  | inl asks ↦
      let here : challenge_visible reply ≡ reported_of (claimed reply) = rw asks refl in
      here ∙ ap (λ (r : Option (List ℕ)). decoded_by r (claimed reply).nonce (claimed reply).algorithms (claimed reply).listed) none
  | inr other ↦ rw other refl
]

-- An error response that is no challenge shows no REALM, signed or not.
failure_alone : (code : ℕ) → last_of_kind realm_kind (failure_attributes code) ≡ None
unfolding last_of_kind
failure_alone code = refl

failure_signed : (code : ℕ) (algorithm : IntegrityAlgorithm) (key text : List ℕ) → last_of_kind realm_kind (failure_attributes code ++ signature algorithm key text ∷ []) ≡ None
unfolding last_of_kind signature
failure_signed code Sha1 key text = refl
failure_signed code Sha256 key text = refl
failure_signed code Sha512 key text = refl

no_realm_listed : (reply : List ℕ) (all : List Attr) → visible reply ≡ all → last_of_kind realm_kind all ≡ None → challenge_visible reply ≡ None
unfolding text_decoded
no_realm_listed reply all shows none = no_realm reply (ap (λ (l : List Attr). text_decoded realm_kind longest_text (last_of_kind realm_kind l)) shows ∙ ap (text_decoded realm_kind longest_text) none)

module _ (realm : List ℕ) (old new : State) (same : old.auth.realm ≡ realm) (from : SocketAddr) (bytes reply : List ℕ) (now : ℕ) (stream : Stream) (served : IsServed bytes) where
  none_decoded : challenge_visible reply ≡ None → ReportsRealm realm reply
  none_decoded none reported shows = absurd (Prim.cc (sym shows ∙ none))

  read_reported : (a : IsChallenge old from bytes now stream reply new) → challenge_visible reply ≡ Some (challenge_of (unvalidated_party old.auth a.nonce)) → ReportsRealm realm reply
  read_reported a read reported shows =
      let is : reported ≡ challenge_of (unvalidated_party old.auth a.nonce) = Prim.cc (sym shows ∙ read) in
      ap (λ (t : ChallengeFields). t.realm) is ∙ same

  away_reports : (error : LongTermServerAuthError) (a : IsChallenge old from bytes now stream reply new) → a.error ≡ error → ReportsRealm realm reply
  away_reports BadRequest a is =
      let shows : visible reply ≡ failure_attributes bad_request_code = a.read.shows ∙ ap (λ (e : LongTermServerAuthError). refusal_attributes e (unvalidated_party old.auth a.nonce)) is in
      none_decoded (no_realm_listed reply (failure_attributes bad_request_code) shows (failure_alone bad_request_code))
  away_reports Unauthorized a is = read_reported a (challenge_read old new from bytes reply now stream served a (λ e. Prim.cc (sym is ∙ e)))
  away_reports (IntegrityFailed algorithm) a is = read_reported a (challenge_read old new from bytes reply now stream served a (λ e. Prim.cc (sym is ∙ e)))
  away_reports StaleNonce a is = read_reported a (challenge_read old new from bytes reply now stream served a (λ e. Prim.cc (sym is ∙ e)))
  away_reports NoMemory a is = read_reported a (challenge_read old new from bytes reply now stream served a (λ e. Prim.cc (sym is ∙ e)))

  success_reports : (kind : ℕ) → kind_at reply ≡ kind → kind ≡ success_type bytes → ReportsRealm realm reply
  success_reports kind is typed = none_decoded (no_challenge reply (ap class_of (is ∙ typed) ∙ (success_typed bytes served).class))

  verdict_reports : (what : Verdict) → IsVerdict old from bytes now stream what reply new → ReportsRealm realm reply
  verdict_reports (Fails code) a = none_decoded (no_realm_listed reply _ a.read.shows (failure_signed code a.algorithm _ _))
  verdict_reports (Allocates transport relayed lifetime) a = success_reports _ a.read.kind refl
  verdict_reports (Refreshes lifetime) a = success_reports _ a.read.kind refl
  verdict_reports (Permits peers) a = success_reports _ a.read.kind refl
  verdict_reports (Binds channel peer) a = success_reports _ a.read.kind refl
  verdict_reports (Connects peer connection) a = success_reports _ a.read.kind refl
  verdict_reports (Joins connection) a = success_reports _ a.read.kind refl

  reply_reports : (decision : Decision) → IsAnswer old from bytes now stream decision reply new → ReportsRealm realm reply
  reply_reports decision (inl a) = away_reports a.error a refl
  reply_reports decision (inr a) = verdict_reports (verdict_on bytes decision) a

  typed_answers : (what : Verdict) → is_indication (class_of (reply_type bytes what)) ≡ false
  typed_answers (Fails code) = ap is_indication (error_class bytes served)
  typed_answers (Allocates transport relayed lifetime) = ap is_indication (success_typed bytes served).class
  typed_answers (Refreshes lifetime) = ap is_indication (success_typed bytes served).class
  typed_answers (Permits peers) = ap is_indication (success_typed bytes served).class
  typed_answers (Binds channel peer) = ap is_indication (success_typed bytes served).class
  typed_answers (Connects peer connection) = ap is_indication (success_typed bytes served).class
  typed_answers (Joins connection) = ap is_indication (success_typed bytes served).class

  pub reply_is : (decision : Decision) → IsAnswer old from bytes now stream decision reply new → IsReplyOf realm reply
  reply_is decision (inl a) = record { message = a.read.message; answers = ap is_indication (ap class_of a.read.kind ∙ error_class bytes served); decodes = reply_reports decision (inl a) }
  reply_is decision (inr a) = record { message = a.read.message; answers = ap is_indication (ap class_of a.read.kind) ∙ typed_answers (verdict_on bytes decision); decodes = reply_reports decision (inr a) }
