-- A server core's challenge of a signed request has the server core's realm, and accepts what the server core
-- accepts.
use Rattle.std.proofs.Common.{◌≡◌, ◌≢◌, ℕ, Bool, true, false, List, [], ◌∷◌, ◌++◌, Option, Some, None, refl, sym, ap, ◌∙◌, inl, inr}
use Rattle.std.specs.Prelude.{if◌then◌else◌, ◌&&◌, is_none, not}
use Rattle.std.specs.FinMap as map
use Rattle.std.specs.Option.{option_map}
use Rattle.std.specs.declared.net.socket_addr.SocketAddr.{SocketAddr}
use Rattle.rand_core.specs.Stream.{Stream}
use Rattle.turn_desk_core.specs.StunTypesWire.Attributes.{Attr, kind_at}
use Rattle.turn_desk_core.specs.StunTypesWire.Grammar.{number_at, refusal, visible}
use Rattle.turn_desk_core.specs.StunTypesWire.declared.algorithm.IntegrityAlgorithm.{IntegrityAlgorithm}
use Rattle.turn_desk_core.specs.StunTypesWire.declared.algorithm.IntegrityAlgorithm.TheVariants.{Sha1, Sha256, Sha512}
use Rattle.turn_desk_core.specs.StunTypesWire.declared.class.MessageClass.{MessageClass}
use Rattle.turn_desk_core.specs.StunTypesWire.declared.class.MessageClass.TheVariants.{Error, Success}
use Rattle.turn_desk_core.specs.StunTypesMessage.Objections.{error_attribute}
use Rattle.turn_client_proto_messages.specs.StunTypesIntegrity.Signing.{signature}
use Rattle.turn_desk_core.specs.StunTypesWire.Text.{message_text}
use Rattle.turn_desk_core.specs.StunTypesWire.Types.{class_of, method_of, type_of}
use Rattle.turn_client_proto_messages.specs.StunProtoClient.Challenges.{ChallengeFields, asks_again, challenge_visible, is_anonymous_enough, is_challenge_code, is_error, is_listed_enough, lacks_list, list_for_choice, reported_of}
use Rattle.turn_client_proto_messages.specs.StunProtoClient.Choice.{supports, takes}
use Rattle.turn_client_proto_api.specs.StunProtoAuth.Claims.{claim_of, claimed, code_visible, last_of_kind, text_decoded}
use Rattle.turn_client_proto_messages.specs.StunProtoAuth.SupportedAlgorithms.{list_of}
use Rattle.turn_client_proto_messages.specs.StunProtoClient.Client as auth
use Rattle.turn_client_proto_messages.specs.StunProtoClient.ClientValidation.{IsAnswerable}
use Rattle.turn_client_proto_api.specs.StunProtoAuth.declared.feature.Feature.TheVariants.{Auto, Disabled, Required}
use Rattle.turn_client_proto_api.specs.StunProtoAuth.declared.feature.Feature.{Feature}
use Rattle.turn_desk_core.specs.StunProtoVerify.Judgement.{user_key}
use Rattle.turn_client_proto_api.specs.StunProtoAuth.Nonce.{features_offered, features_in}
use Rattle.turn_desk_core.specs.StunProtoServer.Server.{Client, Server}
use Rattle.turn_desk_core.specs.StunProtoServer.ServerSigning.{Party}
use Rattle.turn_desk_core.specs.StunProtoVerify.declared.error.LongTermServerAuthError.TheVariants.{BadRequest}
use Rattle.turn_desk_core.specs.StunProtoVerify.declared.error.LongTermServerAuthError.{LongTermServerAuthError}
use Rattle.turn_desk_core.specs.declared.decision.Decision.{Decision}
use Rattle.turn_desk_core.specs.Requests.{IsServed}
use Rattle.turn_desk_core.specs.State.{State}
use Rattle.turn_desk_core.specs.Steps.{IsAnswer, IsChallenge, IsVerdict, refusal_attributes, unvalidated_party}
use Rattle.turn_desk_core.specs.Verdicts.{reply_attributes, reply_type, verdict_on}
use Rattle.turn_desk_core.specs.declared.verdict.Verdict.{Verdict}
use Rattle.turn_desk_core.specs.declared.verdict.Verdict.TheVariants.{Fails, Allocates, Refreshes, Permits, Binds, Connects, Joins}
use Rattle.turn_desk_step_laws.specs.Challenged.{challenge_of}
use Rattle.turn_desk_progress_laws.specs.Standing.{IsOfSettings}
use Rattle.turn_desk_step_laws.proofs.Reported.{challenge_read, takes_chosen}
use Rattle.turn_desk_progress_laws.specs.Joining.{ReportsOwn}
use Rattle.turn_desk_progress_laws.proofs.Successes.{IsMethod}

-- ---- what is no challenge

untold : (bytes : List ℕ) → reported_of (claimed bytes) ≡ None → challenge_visible bytes ≡ None
untold bytes none = by (asks_again bytes)
  where
    by : (b : Bool) → (if b then reported_of (claimed bytes) else None) ≡ None
    by true = none
    by false = refl

-- An error response with only its code.
bare_failure : (bytes : List ℕ) (code : ℕ) → visible bytes ≡ error_attribute code ∷ [] → challenge_visible bytes ≡ None
unfolding last_of_kind text_decoded
bare_failure bytes code shows = untold bytes (ap (λ (l : List Attr). reported_of (claim_of l)) shows)

-- An error response with its code and a signature.
signed_failure : (bytes : List ℕ) (code : ℕ) (algorithm : IntegrityAlgorithm) (key text : List ℕ) → visible bytes ≡ error_attribute code ∷ signature algorithm key text ∷ [] → challenge_visible bytes ≡ None
unfolding last_of_kind text_decoded signature
signed_failure bytes code Sha1 key text shows = untold bytes (ap (λ (l : List Attr). reported_of (claim_of l)) shows)
signed_failure bytes code Sha256 key text shows = untold bytes (ap (λ (l : List Attr). reported_of (claim_of l)) shows)
signed_failure bytes code Sha512 key text shows = untold bytes (ap (λ (l : List Attr). reported_of (claim_of l)) shows)

no_success : (bytes : List ℕ) → class_of (kind_at bytes) ≡ Success → challenge_visible bytes ≡ None
no_success bytes is = ap (λ (c : MessageClass). if is_error c && is_challenge_code (code_visible bytes) then reported_of (claimed bytes) else None) is

-- ---- the list

-- A challenge has the list that it announces.
listed_by : (announced : Bool) (list : List ℕ) → (announced && is_none (if announced then Some list else None)) ≡ false
listed_by true list = refl
listed_by false list = refl

has_list : (party : Party) → lacks_list (challenge_of party) ≡ false
has_list party = listed_by (features_in party.nonce).password_algorithms (list_of party.algorithms)

pub has_given_list : (reported : ChallengeFields) (list : List ℕ) → reported.listed ≡ (if (features_in reported.nonce).password_algorithms then Some list else None) → lacks_list reported ≡ false
has_given_list reported list is =
    ap (λ (o : Option (List ℕ)). (features_in reported.nonce).password_algorithms && is_none o) is ∙ listed_by (features_in reported.nonce).password_algorithms list

-- ---- what is one

module _ (old new : State) (from : SocketAddr) (bytes reply : List ℕ) (now : ℕ) (stream : Stream) (decision : Decision) (m : ℕ) (is_method : IsMethod m) (error_method : method_of (type_of Error m) ≡ m) (method_is : method_of (kind_at bytes) ≡ m)
    (served : IsServed bytes) (is : IsAnswer old from bytes now stream decision reply new) (reported : ChallengeFields) (shows : challenge_visible reply ≡ Some reported) where
  reported_none : {A : Type 0} → challenge_visible reply ≡ None → A
  reported_none none = absurd (Prim.cc (sym shows ∙ none))

  no_verdict : {A : Type 0} → IsVerdict old from bytes now stream (verdict_on bytes decision) reply new → A
  no_verdict {A} v = by (verdict_on bytes decision) v.read.kind v.read.shows
    where
      succeeds : kind_at reply ≡ type_of Success (method_of (kind_at bytes)) → A
      succeeds kind = reported_none (no_success reply (ap class_of kind ∙ (ap (λ (x : ℕ). class_of (type_of Success x)) method_is ∙ is_method.success)))

      by : (what : Verdict) → kind_at reply ≡ reply_type bytes what
          → visible reply ≡ reply_attributes bytes from what ++ signature v.algorithm (user_key old.auth.realm v.name v.password v.algorithm) (message_text (reply_type bytes what) (number_at bytes) (reply_attributes bytes from what)) ∷ [] → A
      by (Fails code) kind attributes = reported_none (signed_failure reply code v.algorithm (user_key old.auth.realm v.name v.password v.algorithm) _ attributes)
      by (Allocates transport relayed lifetime) kind attributes = succeeds kind
      by (Refreshes lifetime) kind attributes = succeeds kind
      by (Permits peers) kind attributes = succeeds kind
      by (Binds channel peer) kind attributes = succeeds kind
      by (Connects peer connection) kind attributes = succeeds kind
      by (Joins connection) kind attributes = succeeds kind

  pub by_challenge : IsChallenge old from bytes now stream reply new
  by_challenge = of is
    where
      of : IsAnswer old from bytes now stream decision reply new → IsChallenge old from bytes now stream reply new
      of (inl challenge) = challenge
      of (inr v) = no_verdict v

  abbrev ch : IsChallenge old from bytes now stream reply new
  ch = by_challenge

  not_bad : ch.error ≢ BadRequest
  not_bad bad = reported_none (bare_failure reply 400 (ch.read.shows ∙ ap (λ (e : LongTermServerAuthError). refusal_attributes e (unvalidated_party old.auth ch.nonce)) bad))

  reported_is : reported ≡ challenge_of (unvalidated_party old.auth ch.nonce)
  reported_is = Prim.cc (sym shows ∙ challenge_read old new from bytes reply now stream served ch not_bad)

  pub message_is : refusal reply ≡ None
  message_is = ch.read.message

  pub number_same : number_at reply ≡ number_at bytes
  number_same = ch.read.number

  pub method_same : method_of (kind_at reply) ≡ m
  method_same = ap method_of ch.read.kind ∙ (ap (λ (x : ℕ). method_of (type_of Error x)) method_is ∙ error_method)

  pub realm_is : reported.realm ≡ old.auth.realm
  realm_is = ap (λ (t : ChallengeFields). t.realm) reported_is

  -- It has the list that it announces.
  pub list_there : lacks_list reported ≡ false
  list_there = ap lacks_list reported_is ∙ has_list (unvalidated_party old.auth ch.nonce)

  -- The challenge accepts what the server core accepts, if its nonce announces that.
  module _ (algorithms : List IntegrityAlgorithm) (anonymous : Feature) (own : old.auth.algorithms ≡ algorithms) (decodes : ReportsOwn algorithms anonymous from new.auth) where
    features_by : (found : Option Client) → map.get new.auth.clients from ≡ found → option_map (λ (k : Client). k.nonce) found ≡ Some ch.nonce → features_in ch.nonce ≡ features_offered algorithms anonymous
    features_by None found is_nonce = absurd (Prim.cc is_nonce)
    features_by (Some stored) found is_nonce =
        let same : stored.nonce ≡ ch.nonce = Prim.cc is_nonce in
        ap features_in (sym same) ∙ decodes stored found

    features : features_in ch.nonce ≡ features_offered algorithms anonymous
    features = features_by (map.get new.auth.clients from) refl ch.stored

    pub takes_so : (hardened : Bool) (algorithm : IntegrityAlgorithm) → takes hardened (list_for_choice hardened reported) algorithm ≡ supports algorithms algorithm
    takes_so hardened algorithm =
        ap (λ (t : ChallengeFields). takes hardened (list_for_choice hardened t) algorithm) reported_is
        ∙ (takes_chosen hardened (unvalidated_party old.auth ch.nonce) algorithm (ap (λ f. f.password_algorithms) features ∙ ap (λ (l : List IntegrityAlgorithm). (features_offered l anonymous).password_algorithms) (sym own))
        ∙ ap (λ (l : List IntegrityAlgorithm). supports l algorithm) own)

    pub hides_so : (features_in reported.nonce).anonymous_username ≡ (features_offered algorithms anonymous).anonymous_username
    hides_so = ap (λ (t : ChallengeFields). (features_in t.nonce).anonymous_username) reported_is ∙ ap (λ f. f.anonymous_username) features

-- ---- who can answer one challenge of a server can answer another

module _ (server : Server) (client : auth.Client) (one other : ChallengeFields) (of_one : IsOfSettings server one) (of_other : IsOfSettings server other) (choice : IntegrityAlgorithm) (is : IsAnswerable client one choice) where
  same_takes : (algorithm : IntegrityAlgorithm) → takes client.hardened (list_for_choice client.hardened other) algorithm ≡ takes client.hardened (list_for_choice client.hardened one) algorithm
  same_takes algorithm = of_other.takes_own client.hardened algorithm ∙ sym (of_one.takes_own client.hardened algorithm)

  hides : (f : Feature) → is_anonymous_enough f one.nonce ≡ true → is_anonymous_enough f other.nonce ≡ true
  hides Auto enough = refl
  hides Disabled enough = refl
  hides Required enough = of_other.hides ∙ (sym of_one.hides ∙ enough)

  lists : (hardened : Bool) → is_listed_enough hardened other ≡ true
  lists false = refl
  lists true = ap not of_other.listed

  pub answers_other : IsAnswerable client other choice
  answers_other = record {
    strongest = record {
      common = ap (λ (b : Bool). supports client.algorithms choice && b) (same_takes choice) ∙ is.strongest.common;
      greatest = λ algorithm common. is.strongest.greatest algorithm (ap (λ (b : Bool). supports client.algorithms algorithm && b) (sym (same_takes algorithm)) ∙ common);
    };
    anonymous = hides client.anonymous_username is.anonymous;
    listed = lists client.hardened;
  }
