-- What a reply means for a layer above.
use Rattle.std.specs.Prelude.{◌≡◌, ◌⊎◌, ℕ, ◌+◌, Bool, true, false, List, [], ◌∷◌, ◌++◌, Some}
use Rattle.std.proofs.Common.{refl, sym, ap, ◌∙◌, subst, inl, inr}
use Rattle.std.proofs.lemmas.List.{append-nil}
use Rattle.std.specs.List.{AllByRecursion}
use Rattle.std.specs.FinMap as map
use Rattle.std.specs.declared.net.socket_addr.SocketAddr.{SocketAddr}
use Rattle.rand_core.specs.Stream.{Stream}
use Rattle.stun_types_wire.specs.declared.algorithm.IntegrityAlgorithm.{IntegrityAlgorithm}
use Rattle.stun_types_wire.specs.declared.algorithm.IntegrityAlgorithm.TheVariants.{Sha1, Sha256, Sha512}
use Rattle.stun_types_wire.specs.declared.class.MessageClass.{MessageClass}
use Rattle.stun_types_wire.specs.declared.class.MessageClass.TheVariants.{Success, Error}
use Rattle.stun_types_wire.specs.Attributes.{Attr, attr_size, kind_at, numbered}
use Rattle.stun_types_wire.specs.Types.{class_of, is_response_class, method_of, type_of}
use Rattle.stun_types_write.specs.Adding.{has_kind}
use Rattle.stun_types_wire.specs.Shape.{kinds_of, rank}
use Rattle.stun_types_wire.specs.Grammar.{number_at, visible}
use Rattle.stun_types_wire.specs.Text.{message_text}
use Rattle.stun_types_add.specs.Integrity.Integrity.{Validates, attribute_kind}
use Rattle.stun_types_add.specs.Integrity.Signing.{signature, text_to_sign}
use Rattle.stun_types_message.specs.Objections.{error_type}
use Rattle.stun_proto_verify.specs.Knowledge.{Named}
use Rattle.stun_proto_verify.specs.Auth.Nonce.{features_in}
use Rattle.stun_proto_verify.specs.Auth.Addition.{attrs}
use Rattle.stun_proto_verify.specs.Judgement.{user_key}
use Rattle.stun_proto_server.specs.Server.{Server, refreshed}
use Rattle.stun_proto_verify.specs.declared.error.LongTermServerAuthError.{LongTermServerAuthError}
use Rattle.stun_proto_verify.specs.declared.error.LongTermServerAuthError.TheVariants.{BadRequest, IntegrityFailed, NoMemory, StaleNonce, Unauthorized}
use Rattle.stun_proto_server.specs.ServerSigning.{Party, list_for}
use Rattle.stun_proto_server.specs.ServerValidation.{Accepts}
use Rattle.turn_types_attributes.specs.TurnRegistry.{connection_id_kind}
use Rattle.turn_desk_core.specs.Replies.{failure_attributes, success_type}
use Rattle.turn_desk_core.specs.declared.decision.Decision.{Decision}
use Rattle.turn_desk_core.specs.declared.grant.Grant as granted
use Rattle.turn_desk_core.specs.declared.verdict.Verdict.{Verdict}
use Rattle.turn_desk_core.specs.declared.verdict.Verdict.TheVariants.{Fails, Allocates, Refreshes, Permits, Binds, Connects, Joins}
use Rattle.turn_desk_core.specs.Grants.{IsGrant, Allocated, Refreshed, Permitted, Bound, Connected, Joined}
use Rattle.turn_desk_core.specs.Requests.{IsServed}
use Rattle.turn_desk_core.specs.Verdicts.{grants_of, reply_attributes, reply_type, verdict_on}
use Rattle.turn_desk_core.proofs.Granting.{verdict_stored}
use Rattle.turn_desk_core.proofs.Methods.{by_method}
use Rattle.turn_desk_core.specs.State.{State}
use Rattle.turn_desk_core.specs.Steps.{IsAnswer, IsChallenge, IsVerdict, refusal_attributes, unvalidated_party}
use Rattle.turn_desk_core.specs.DeskSteps.{DeskStep, IsRecorded, IsSignedAlike, IsUnsigned}
use Rattle.turn_desk_core.proofs.Keys.{refreshed_users}
use Rattle.turn_desk_core.proofs.Nonces.{refreshed_realm}

-- ---- the type of a reply

abbrev HasType : MessageClass → ℕ → ℕ → Type 0
HasType class kind method = (class_of kind ≡ class) × (method_of kind ≡ method)

error_has : (bytes : List ℕ) → IsServed bytes → HasType Error (error_type bytes) (method_of (kind_at bytes))
error_has bytes served = by_method (λ (m : ℕ). HasType Error (type_of Error m) m)
    (record { allocate = (refl, refl); refresh = (refl, refl); create_permission = (refl, refl); channel_bind = (refl, refl); connect = (refl, refl); connection_bind = (refl, refl) }) (method_of (kind_at bytes)) served.method

success_has : (bytes : List ℕ) → IsServed bytes → HasType Success (success_type bytes) (method_of (kind_at bytes))
success_has bytes served = by_method (λ (m : ℕ). HasType Success (type_of Success m) m)
    (record { allocate = (refl, refl); refresh = (refl, refl); create_permission = (refl, refl); channel_bind = (refl, refl); connect = (refl, refl); connection_bind = (refl, refl) }) (method_of (kind_at bytes)) served.method

-- ---- what is signed

abbrev ArePlain : List Attr → Type 0
ArePlain all = AllByRecursion (λ (a : Attr). rank a.kind ≡ 0) all

-- Each element of a list of plain attributes is plain.
plain_there : (all : List Attr) (offset : ℕ) (before : List (ℕ × Attr)) (e : ℕ × Attr) (following : List (ℕ × Attr)) → ArePlain all → numbered offset all ≡ before ++ e ∷ following → rank e.1.kind ≡ 0
plain_there [] offset [] e following plain is = absurd (Prim.cc is)
plain_there [] offset (b ∷ before) e following plain is = absurd (Prim.cc is)
plain_there (a ∷ all) offset [] e following plain is =
    let same : (offset, a) ≡ e = Prim.cc is in
    subst (λ (x : ℕ × Attr). rank x.1.kind ≡ 0) same plain.0
plain_there (a ∷ all) offset (b ∷ before) e following plain is =
    plain_there all (offset + attr_size a) before e following plain.1 (Prim.cc is)

no_plain : (algorithm : IntegrityAlgorithm) → rank (attribute_kind algorithm) ≡ 0 → ⊥
no_plain Sha1 h = Prim.cc h
no_plain Sha256 h = Prim.cc h
no_plain Sha512 h = Prim.cc h

-- A message with only plain attributes validates under no key.
plain_unsigned : (reply : List ℕ) (all : List Attr) → visible reply ≡ all → ArePlain all → IsUnsigned reply
plain_unsigned reply all shows plain key text algorithm valid =
    let signed = valid.signed in
    let there : numbered 20 all ≡ signed.before ++ (signed.offset, signed.attribute) ∷ signed.following = ap (λ (l : List Attr). numbered 20 l) (sym shows) ∙ signed.shows in
    no_plain algorithm (ap rank (sym signed.kind) ∙ plain_there all 20 signed.before (signed.offset, signed.attribute) signed.following plain there)

list_plain : (lists : Bool) (algorithms : List IntegrityAlgorithm) → ArePlain (attrs (list_for lists algorithms))
list_plain false algorithms = tt
list_plain true algorithms = (refl, tt)

-- The attributes of the reply to a request that failed validation are plain.
refusal_plain : (error : LongTermServerAuthError) (party : Party) → ArePlain (refusal_attributes error party)
refusal_plain BadRequest party = (refl, tt)
refusal_plain StaleNonce party = (refl, (refl, (refl, list_plain (features_in party.nonce).password_algorithms party.algorithms)))
refusal_plain Unauthorized party = (refl, (refl, (refl, list_plain (features_in party.nonce).password_algorithms party.algorithms)))
refusal_plain (IntegrityFailed algorithm) party = (refl, (refl, (refl, list_plain (features_in party.nonce).password_algorithms party.algorithms)))
refusal_plain NoMemory party = (refl, (refl, (refl, list_plain (features_in party.nonce).password_algorithms party.algorithms)))

-- ---- what an error shows

abbrev ShowsNoConnection : List Attr → Type 0
ShowsNoConnection all = has_kind connection_id_kind (kinds_of all) ≡ false

list_without : (lists : Bool) (algorithms : List IntegrityAlgorithm) → ShowsNoConnection (attrs (list_for lists algorithms))
list_without false algorithms = refl
list_without true algorithms = refl

refusal_without : (error : LongTermServerAuthError) (party : Party) → ShowsNoConnection (refusal_attributes error party)
refusal_without BadRequest party = refl
refusal_without StaleNonce party = list_without (features_in party.nonce).password_algorithms party.algorithms
refusal_without Unauthorized party = list_without (features_in party.nonce).password_algorithms party.algorithms
refusal_without (IntegrityFailed algorithm) party = list_without (features_in party.nonce).password_algorithms party.algorithms
refusal_without NoMemory party = list_without (features_in party.nonce).password_algorithms party.algorithms

failure_without : (code : ℕ) (algorithm : IntegrityAlgorithm) (key bytes : List ℕ) → ShowsNoConnection (failure_attributes code ++ signature algorithm key bytes ∷ [])
unfolding signature
failure_without code Sha1 key bytes = refl
failure_without code Sha256 key bytes = refl
failure_without code Sha512 key bytes = refl

-- ---- what is granted

-- An error response grants nothing, and a success response grants one thing.
record IsFailure (bytes : List ℕ) (from : SocketAddr) (what : Verdict) : Type 0 where
  kind : reply_type bytes what ≡ error_type bytes
  none : grants_of bytes from what ≡ []
  code : ℕ
  shows : reply_attributes bytes from what ≡ failure_attributes code

record IsSuccess (bytes : List ℕ) (from : SocketAddr) (what : Verdict) : Type 0 where
  kind : reply_type bytes what ≡ success_type bytes
  grant : granted.Grant
  one : grants_of bytes from what ≡ grant ∷ []

either : (bytes : List ℕ) (from : SocketAddr) (what : Verdict) → IsFailure bytes from what ⊎ IsSuccess bytes from what
either bytes from (Fails code) = inl (record { kind = refl; none = refl; code = code; shows = refl })
either bytes from (Allocates transport relayed lifetime) = inr (record { kind = refl; grant = _; one = refl })
either bytes from (Refreshes lifetime) = inr (record { kind = refl; grant = _; one = refl })
either bytes from (Permits peers) = inr (record { kind = refl; grant = _; one = refl })
either bytes from (Binds channel peer) = inr (record { kind = refl; grant = _; one = refl })
either bytes from (Connects peer connection) = inr (record { kind = refl; grant = _; one = refl })
either bytes from (Joins connection) = inr (record { kind = refl; grant = _; one = refl })

-- A grant has the transaction ID, the source and the method of its request.
record IsOfRequest (bytes : List ℕ) (from : SocketAddr) (g : granted.Grant) : Type 0 where
  number : g.number ≡ number_at bytes
  source : g.from ≡ from
  method : g.method.0 ≡ method_of (kind_at bytes)

of_stored : (bytes : List ℕ) (from : SocketAddr) (g h : granted.Grant) → IsOfRequest bytes from h → g ≡ h → IsOfRequest bytes from g
of_stored bytes from g h of is = subst (λ (x : granted.Grant). IsOfRequest bytes from x) (sym is) of

of_request : (bytes : List ℕ) (from : SocketAddr) (decision : Decision) (shows : List Attr) (g : granted.Grant) → IsGrant bytes from decision shows g → IsOfRequest bytes from g
of_request bytes from decision shows g (Allocated is) = of_stored bytes from g _ (record { number = refl; source = refl; method = refl }) is.stored
of_request bytes from decision shows g (Refreshed is) = of_stored bytes from g _ (record { number = refl; source = refl; method = refl }) is.stored
of_request bytes from decision shows g (Permitted is) = of_stored bytes from g _ (record { number = refl; source = refl; method = refl }) is.stored
of_request bytes from decision shows g (Bound is) = of_stored bytes from g _ (record { number = refl; source = refl; method = refl }) is.stored
of_request bytes from decision shows g (Connected is) = of_stored bytes from g _ (record { number = refl; source = refl; method = refl }) is.stored
of_request bytes from decision shows g (Joined is) = of_stored bytes from g _ (record { number = refl; source = refl; method = refl }) is.stored

-- ---- the step

no_success : {P : Type 0} (class : MessageClass) → class ≡ Error → class ≡ Success → P
no_success class one other = absurd (let p : ◌≡◌ {A = MessageClass} Error Success = sym one ∙ other in Prim.cc p)

no_error : {P : Type 0} (class : MessageClass) → class ≡ Success → class ≡ Error → P
no_error class one other = absurd (let p : ◌≡◌ {A = MessageClass} Success Error = sym one ∙ other in Prim.cc p)

challenge_step : (old new : State) (from : SocketAddr) (bytes reply : List ℕ) (now : ℕ) (stream : Stream) (decision : Decision) → IsServed bytes → IsChallenge old from bytes now stream reply new → DeskStep old from bytes decision reply new
challenge_step old new from bytes reply now stream decision served away =
    let has = error_has bytes served in
    let class : class_of (kind_at reply) ≡ Error = ap class_of away.read.kind ∙ has.0 in
    record {
      responds = ap is_response_class class;
      method = ap method_of away.read.kind ∙ has.1;
      number = away.read.number;
      accepts = no_success (class_of (kind_at reply)) class;
      grants = no_success (class_of (kind_at reply)) class;
      keeps = λ error. away.granted;
      refuses = λ error. ap (λ (all : List Attr). has_kind connection_id_kind (kinds_of all)) away.read.shows ∙ refusal_without away.error (unvalidated_party old.auth away.nonce);
      signs = inl (plain_unsigned reply (refusal_attributes away.error (unvalidated_party old.auth away.nonce)) away.read.shows (refusal_plain away.error (unvalidated_party old.auth away.nonce)));
    }

-- A request that is accepted validates under its user's key.
pub record IsValidUnder (bytes key : List ℕ) (algorithm : IntegrityAlgorithm) : Type 0 where
  pub text : List ℕ
  pub valid : Validates bytes key algorithm text

pub accepted_valid : (old : Server) (from : SocketAddr) (bytes : List ℕ) (now : ℕ) (stream : Stream) (name password : List ℕ) (algorithm : IntegrityAlgorithm) → Accepts (refreshed old from now stream) from bytes algorithm name
    → map.get old.users name ≡ Some password → IsValidUnder bytes (user_key old.realm name password algorithm) algorithm
accepted_valid old from bytes now stream name password algorithm accepts present =
    let r = refreshed old from now stream in
    let judged = accepts.judged in
    let there : map.get r.users name ≡ Some password = ap (λ u. map.get u name) (refreshed_users old from now stream) ∙ present in
    let same : judged.password ≡ password = sym (of_user judged.present) ∙ inside (sym accepts.named.present ∙ there) in
    let key : user_key r.realm name judged.password algorithm ≡ user_key old.realm name password algorithm =
    ap (λ (p : List ℕ). user_key r.realm name p algorithm) same ∙ ap (λ (realm : List ℕ). user_key realm name password algorithm) (refreshed_realm old from now stream) in
    record { text = judged.text; valid = subst (λ (k : List ℕ). Validates bytes k algorithm judged.text) key judged.validates }
  where
    inside : {a b : List ℕ} → Some a ≡ Some b → a ≡ b
    inside p = Prim.cc p

    same_user : {a b : Named} → Some a ≡ Some b → a ≡ b
    same_user p = Prim.cc p

    of_user : {a b : Named} → Some a ≡ Some b → a.password ≡ b.password
    of_user p = ap (λ (u : Named). u.password) (same_user p)

alike : (old new : State) (from : SocketAddr) (bytes reply : List ℕ) (now : ℕ) (stream : Stream) (what : Verdict) → IsVerdict old from bytes now stream what reply new → IsSignedAlike old.auth bytes reply
alike old new from bytes reply now stream what v =
    let valid = accepted_valid old.auth from bytes now stream v.name v.password v.algorithm v.judged.accepts v.present in
    record {
      name = v.name;
      password = v.password;
      present = v.present;
      algorithm = v.algorithm;
      requested = valid.text;
      validated = valid.valid;
      answered = text_to_sign v.algorithm (message_text (reply_type bytes what) (number_at bytes) (reply_attributes bytes from what));
      signed = v.valid;
    }

recorded : (old new : State) (from : SocketAddr) (bytes reply : List ℕ) (now : ℕ) (stream : Stream) (decision : Decision) → IsServed bytes → (v : IsVerdict old from bytes now stream (verdict_on bytes decision) reply new)
    → IsSuccess bytes from (verdict_on bytes decision) → IsRecorded old from bytes decision reply new
recorded old new from bytes reply now stream decision served v success =
    let what = verdict_on bytes decision in
    let shows = reply_attributes bytes from what in
    let stored = verdict_stored bytes from decision success.grant served success.one in
    let of = of_request bytes from decision shows success.grant stored.grant in
    record {
      grant = success.grant;
      stored = v.granted ∙ ap (λ (l : List granted.Grant). old.grants ++ l) success.one;
      number = of.number;
      source = of.source;
      method = of.method;
      shows = shows;
      granted_by = stored.grant;
      integrity = signature v.algorithm (user_key old.auth.realm v.name v.password v.algorithm) (message_text (reply_type bytes what) (number_at bytes) shows);
      reported = v.read.shows;
    }

verdict_step : (old new : State) (from : SocketAddr) (bytes reply : List ℕ) (now : ℕ) (stream : Stream) (decision : Decision) → IsServed bytes → IsVerdict old from bytes now stream (verdict_on bytes decision) reply new
    → IsFailure bytes from (verdict_on bytes decision) ⊎ IsSuccess bytes from (verdict_on bytes decision) → DeskStep old from bytes decision reply new
verdict_step old new from bytes reply now stream decision served v (inl failure) =
    let what = verdict_on bytes decision in
    let key = user_key old.auth.realm v.name v.password v.algorithm in
    let seal = signature v.algorithm key (message_text (reply_type bytes what) (number_at bytes) (reply_attributes bytes from what)) in
    let has = error_has bytes served in
    let kind : kind_at reply ≡ error_type bytes = v.read.kind ∙ failure.kind in
    let class : class_of (kind_at reply) ≡ Error = ap class_of kind ∙ has.0 in
    record {
      responds = ap is_response_class class;
      method = ap method_of kind ∙ has.1;
      number = v.read.number;
      accepts = no_success (class_of (kind_at reply)) class;
      grants = no_success (class_of (kind_at reply)) class;
      keeps = λ error. v.granted ∙ ap (λ (l : List granted.Grant). old.grants ++ l) failure.none ∙ append-nil old.grants;
      refuses = λ error. ap (λ (all : List Attr). has_kind connection_id_kind (kinds_of all)) (v.read.shows ∙ ap (λ (all : List Attr). all ++ seal ∷ []) failure.shows)
          ∙ failure_without failure.code v.algorithm key (message_text (reply_type bytes what) (number_at bytes) (reply_attributes bytes from what));
      signs = inr (alike old new from bytes reply now stream (verdict_on bytes decision) v);
    }
verdict_step old new from bytes reply now stream decision served v (inr success) =
    let has = success_has bytes served in
    let kind : kind_at reply ≡ success_type bytes = v.read.kind ∙ success.kind in
    let class : class_of (kind_at reply) ≡ Success = ap class_of kind ∙ has.0 in
    record {
      responds = ap is_response_class class;
      method = ap method_of kind ∙ has.1;
      number = v.read.number;
      accepts = λ is. alike old new from bytes reply now stream (verdict_on bytes decision) v;
      grants = λ is. recorded old new from bytes reply now stream decision served v success;
      keeps = no_error (class_of (kind_at reply)) class;
      refuses = no_error (class_of (kind_at reply)) class;
      signs = inr (alike old new from bytes reply now stream (verdict_on bytes decision) v);
    }

-- A reply to a request that is served satisfies `DeskStep`.
pub answer_step : (old new : State) (from : SocketAddr) (bytes reply : List ℕ) (now : ℕ) (stream : Stream) (decision : Decision) → IsServed bytes → IsAnswer old from bytes now stream decision reply new → DeskStep old from bytes decision reply new
answer_step old new from bytes reply now stream decision served (inl away) = challenge_step old new from bytes reply now stream decision served away
answer_step old new from bytes reply now stream decision served (inr v) = verdict_step old new from bytes reply now stream decision served v (either bytes from (verdict_on bytes decision))
