-- A call that meets the contract of a server core is a step of a run.
use Rattle.std.proofs.Common.{◌≡◌, ℕ, true, false, eqb, List, [], ◌∷◌, ◌++◌, Option, Some, None, refl, sym, ap, ◌∙◌, subst, inl, inr}
use Rattle.std.proofs.lemmas.Bool.{cases_Bool}
use Rattle.std.proofs.lemmas.List.{map-append}
use Rattle.std.specs.Prelude.{MatchOption, map, IsSome}
use Rattle.std.specs.List.{find}
use Rattle.std.specs.declared.net.socket_addr.SocketAddr.{SocketAddr}
use Rattle.turn_desk_core.specs.StunTypesWrite.Adding.{has_kind}
use Rattle.turn_desk_core.specs.StunTypesWire.Attributes.{Attr, kind_at}
use Rattle.turn_client_proto_messages.specs.StunTypesIntegrity.Credentials.{Key, NameAndPassword}
use Rattle.turn_desk_core.specs.StunTypesWire.Grammar.{number_at, refusal, visible}
use Rattle.turn_client_proto_messages.specs.StunTypesIntegrity.Integrity.{Validates}
use Rattle.turn_desk_core.specs.StunTypesWire.declared.algorithm.IntegrityAlgorithm.{IntegrityAlgorithm}
use Rattle.turn_desk_core.specs.StunTypesWire.declared.class.MessageClass.{MessageClass}
use Rattle.turn_desk_core.specs.StunTypesWire.declared.class.MessageClass.TheVariants.{Request, Indication, Success, Error}
use Rattle.turn_desk_core.specs.StunTypesWire.declared.error.StunParseError.{StunParseError}
use Rattle.turn_desk_core.specs.StunTypesWire.Shape.{kinds_of}
use Rattle.turn_client_proto_messages.specs.StunTypesIntegrity.Signing.{text_to_sign}
use Rattle.turn_desk_core.specs.StunTypesWire.Text.{message_text}
use Rattle.turn_desk_core.specs.StunTypesWire.Types.{class_of, is_response_class}
use Rattle.turn_desk_core.specs.StunProtoVerify.Judgement.{user_key}
use Rattle.turn_desk_core.specs.StunProtoServer.Server.{Server, nonce_at, refreshed, with_outcome}
use Rattle.turn_desk_core.specs.StunProtoServer.ServerSigning.{party_by_client, party_by_outcome}
use Rattle.turn_desk_core.specs.TurnTypesAttributes.TurnRegistry.{connection_id_kind}
use Rattle.turn_desk_core.specs.TurnTypesPeer.TurnShows.{number_in, unless_refused}
use Rattle.turn_desk_core.specs.Verdicts.{reply_attributes, reply_type, verdict_on}
use Rattle.turn_desk_core.specs.declared.grant.Grant as granted
use Rattle.turn_desk_core.specs.State.{State}
use Rattle.turn_desk_core.specs.Steps.{IsAnswer, IsChallenge, IsVerdict, key_at, key_of_party}
use Rattle.turn_desk_core.specs.DeskSteps.{DeskStep as CoreStep}
use Rattle.turn_desk_core.proofs.Grants.{exactly_granted}
use Rattle.turn_desk_core.proofs.Keys.{stored_outcome, taken_key}
use Rattle.turn_desk_core.proofs.Nonces.{refreshed_nonce, refreshed_realm}
use Rattle.turn_desk_core.proofs.StepLaws.{accepted_valid, answer_step}
use Rattle.turn_runs_laws.specs.TurnRuns.Members.{IsIn}
use Rattle.turn_runs_laws.specs.TurnRuns.Messages.{Grant, IsResponse, Message}
use Rattle.turn_runs_laws.specs.TurnRuns.Steps.{DeskStep, Grants}
use Rattle.turn_runs_laws.proofs.Tools.{in_left}
use Rattle.turn_runs_laws.specs.TurnRuns.StunWire.{AreValid, Cover, key_in, stun_wire, decoded_by}
use Rattle.turn_desk_step_laws.specs.DeskRun.{DeskCall, IsHandled, IsReplied, desk_words, reported_grant}
use Rattle.turn_desk_step_laws.proofs.Granting.{is_for}
use Rattle.turn_desk_step_laws.proofs.Signing.{only_text, reply_plain}

-- ---- what bytes show

message_read : (refused : Option StunParseError) (reported m : Message) → unless_refused refused (Some reported) ≡ Some m → reported ≡ m
message_read None reported m h = Prim.cc h
message_read (Some e) reported m h = absurd (Prim.cc h)

read_of : (bytes : List ℕ) (m : Message) → unless_refused (refusal bytes) (Some (decoded_by bytes)) ≡ Some m → decoded_by bytes ≡ m
read_of bytes m h = message_read (refusal bytes) (decoded_by bytes) m h

response_class : (class : MessageClass) → is_response_class class ≡ true → IsResponse class
response_class Request h = absurd (Prim.cc h)
response_class Indication h = absurd (Prim.cc h)
response_class Success h = inl refl
response_class Error h = inr refl

none_found : (kind : ℕ) (all : List Attr) → has_kind kind (kinds_of all) ≡ false → find (λ a. eqb a.kind kind) all ≡ None
none_found kind [] h = refl
none_found kind (a ∷ all) h = elim (cases_Bool (eqb a.kind kind)) [
  | inl is ↦ absurd (let there : has_kind kind (kinds_of (a ∷ all)) ≡ true = rw is refl in Prim.cc (sym there ∙ h))
  | inr differs ↦
      let later : has_kind kind (kinds_of (a ∷ all)) ≡ has_kind kind (kinds_of all) = rw differs refl in
      rw differs (none_found kind all (sym later ∙ h))
]

-- ---- the reply that there is

replied : (d : DeskCall) (h : IsHandled d) (reply : List ℕ) → d.reply ≡ Some reply → IsReplied d reply
replied d h reply is = subst (λ (o : Option (List ℕ)). MatchOption o (d.after ≡ d.before) (IsReplied d)) is h.outcome

same_reply : {a b : List ℕ} → Some a ≡ Some b → a ≡ b
same_reply p = Prim.cc p

-- ---- the key

key_in_none : (server : Server) (from : SocketAddr) (nonce : List ℕ) → nonce_at server from ≡ Some nonce → key_at (with_outcome server from None) from ≡ None
key_in_none server from nonce has =
    let s = with_outcome server from None in
    let stored = stored_outcome server from nonce None has in
    ap (λ c. key_of_party (party_by_client s c)) stored.found
    ∙ ap (λ o. key_of_party (party_by_outcome s stored.client.nonce o)) stored.same_outcome

no_key : (server : Server) (from : SocketAddr) (has : Option (List ℕ)) → nonce_at server from ≡ has → IsSome has → key_at (with_outcome server from None) from ≡ None
no_key server from None is some = absurd (Prim.cc some)
no_key server from (Some nonce) is some = key_in_none server from nonce is

record IsUserKey (key : List ℕ) (algorithm : IntegrityAlgorithm) (own : List ℕ) (by : IntegrityAlgorithm) : Type 0 where
  same_key : key ≡ own
  same_algorithm : algorithm ≡ by

same_keys : (a b : Key) → Some a ≡ Some b → IsUserKey a.bytes a.algorithm b.bytes b.algorithm
same_keys a b h = let same : a ≡ b = Prim.cc h in record { same_key = ap (λ (k : Key). k.bytes) same; same_algorithm = ap (λ (k : Key). k.algorithm) same }

turned_no_key : (d : DeskCall) (reply key : List ℕ) (algorithm : IntegrityAlgorithm) → IsChallenge d.before d.source d.bytes d.now d.stream reply d.after → key_at d.after.auth d.source ≡ Some (record { bytes = key; algorithm = algorithm }) → ⊥
turned_no_key d reply key algorithm away stored =
    let r = refreshed d.before.auth d.source d.now d.stream in
    let none : key_at d.after.auth d.source ≡ None = ap (λ (s : Server). key_at s d.source) away.judged.after ∙ no_key r d.source (nonce_at r d.source) refl (refreshed_nonce d.before.auth d.source d.now d.stream) in
    Prim.cc (sym none ∙ stored)

taken_user : (d : DeskCall) (reply key : List ℕ) (algorithm : IntegrityAlgorithm) (v : IsVerdict d.before d.source d.bytes d.now d.stream (verdict_on d.bytes d.decision) reply d.after) → key_at d.after.auth d.source ≡ Some (record { bytes = key; algorithm = algorithm })
    → IsUserKey key algorithm (user_key d.before.auth.realm v.name v.password v.algorithm) v.algorithm
taken_user d reply key algorithm v stored =
    let own = taken_key d.before.auth d.source d.bytes d.now d.stream v.name v.algorithm d.after.auth (refreshed_realm d.before.auth d.source d.now d.stream) v.judged in
    let password : own.password ≡ v.password = same_reply (sym own.present ∙ v.present) in
    let same = same_keys (record { bytes = key; algorithm = algorithm }) (record { bytes = user_key d.before.auth.realm v.name own.password v.algorithm; algorithm = v.algorithm }) (sym stored ∙ own.key) in
    record {
      same_key = same.same_key ∙ ap (λ (p : List ℕ). user_key d.before.auth.realm v.name p v.algorithm) password;
      same_algorithm = same.same_algorithm;
    }

-- ---- validation

-- The key with which the server core validates is a user's key in its realm.
keyed_by : (d : DeskCall) (reply key : List ℕ) (algorithm : IntegrityAlgorithm) → IsAnswer d.before d.source d.bytes d.now d.stream d.decision reply d.after
    → key_at d.after.auth d.source ≡ Some (record { bytes = key; algorithm = algorithm }) → (account : NameAndPassword) × (key ≡ key_in account d.before.auth.realm algorithm)
keyed_by d reply key algorithm (inl away) stored = absurd (turned_no_key d reply key algorithm away stored)
keyed_by d reply key algorithm (inr v) stored =
    let own = taken_user d reply key algorithm v stored in
    (record { username = v.name; password = v.password }, own.same_key ∙ ap (λ (a : IntegrityAlgorithm). user_key d.before.auth.realm v.name v.password a) (sym own.same_algorithm))

record IsValid (d : DeskCall) (key : List ℕ) (algorithm : IntegrityAlgorithm) : Type 0 where
  text : List ℕ
  valid : AreValid d.bytes key algorithm text

valid_by : (d : DeskCall) (h : IsHandled d) (reply key : List ℕ) (algorithm : IntegrityAlgorithm) → IsAnswer d.before d.source d.bytes d.now d.stream d.decision reply d.after → key_at d.after.auth d.source ≡ Some (record { bytes = key; algorithm = algorithm }) → IsValid d key algorithm
valid_by d h reply key algorithm (inl away) stored = absurd (turned_no_key d reply key algorithm away stored)
valid_by d h reply key algorithm (inr v) stored =
    let own = taken_user d reply key algorithm v stored in
    let valid = accepted_valid d.before.auth d.source d.bytes d.now d.stream v.name v.password v.algorithm v.judged.accepts v.present in
    let here : AreValid d.bytes (user_key d.before.auth.realm v.name v.password v.algorithm) v.algorithm valid.text = record { are_bytes = h.are_bytes; validates = valid.valid } in
    let other : AreValid d.bytes key v.algorithm valid.text = subst (λ (k : List ℕ). AreValid d.bytes k v.algorithm valid.text) (sym own.same_key) here in
    record { text = valid.text; valid = subst (λ (a : IntegrityAlgorithm). AreValid d.bytes key a valid.text) (sym own.same_algorithm) other }

signed_by : (d : DeskCall) (reply key text : List ℕ) (a b : IntegrityAlgorithm) → IsReplied d reply → IsAnswer d.before d.source d.bytes d.now d.stream d.decision reply d.after
    → key_at d.after.auth d.source ≡ Some (record { bytes = key; algorithm = b }) → Cover reply a text → AreValid reply key a text
signed_by d reply key text a b r (inl away) stored cover = absurd (turned_no_key d reply key b away stored)
signed_by d reply key text a b r (inr v) stored cover =
    let what = verdict_on d.bytes d.decision in
    let own = taken_user d reply key b v stored in
    let user = user_key d.before.auth.realm v.name v.password v.algorithm in
    let one = only_text reply (reply_attributes d.bytes d.source what) _ user v.algorithm a (text_to_sign v.algorithm (message_text (reply_type d.bytes what) (number_at d.bytes) (reply_attributes d.bytes d.source what))) text v.read.shows (reply_plain d.bytes d.source what) v.valid cover in
    let here : AreValid reply user v.algorithm text = record { are_bytes = r.are_bytes; validates = subst (λ (t : List ℕ). Validates reply user v.algorithm t) one.same_text v.valid } in
    let other : AreValid reply key v.algorithm text = subst (λ (k : List ℕ). AreValid reply k v.algorithm text) (sym own.same_key) here in
    subst (λ (x : IntegrityAlgorithm). AreValid reply key x text) one.same_algorithm other

-- ---- grants

stored_by : (d : DeskCall) (reply : List ℕ) → IsAnswer d.before d.source d.bytes d.now d.stream d.decision reply d.after → (more : List granted.Grant) × (d.after.grants ≡ d.before.grants ++ more)
stored_by d reply (inl away) = ([], away.granted ∙ nothing d.before.grants)
  where
    nothing : (all : List granted.Grant) → all ≡ all ++ []
    nothing [] = refl
    nothing (g ∷ all) = ap (λ (l : List granted.Grant). g ∷ l) (nothing all)
stored_by d reply (inr v) = (_, v.granted)

keeps_by : (d : DeskCall) (o : Option (List ℕ)) → MatchOption o (d.after ≡ d.before) (IsReplied d) → (g : Grant) → IsIn g (map reported_grant d.before.grants) → IsIn g (map reported_grant d.after.grants)
keeps_by d None same g is = subst (λ (s : State). IsIn g (map reported_grant s.grants)) (sym same) is
keeps_by d (Some reply) r g is =
    let more = stored_by d reply r.answer in
    subst (λ (l : List Grant). IsIn g l) (sym (ap (map reported_grant) more.1 ∙ map-append reported_grant d.before.grants more.0)) (in_left g (map reported_grant d.before.grants) (map reported_grant more.0) is)

grants_by : (d : DeskCall) (h : IsHandled d) (reply : List ℕ) → d.reply ≡ Some reply → class_of (kind_at reply) ≡ Success → Grants stun_wire desk_words d reply (decoded_by reply)
grants_by d h reply is class =
    let r = replied d h reply is in
    let step : CoreStep d.before d.source d.bytes d.decision reply d.after = answer_step d.before d.after d.source d.bytes reply d.now d.stream d.decision r.served r.answer in
    let recorded = step.grants class in
    let made = (exactly_granted d.before d.after d.source d.bytes d.now d.stream d.decision reply recorded.grant r.served r.answer).0 recorded.stored in
    record {
      request = decoded_by d.bytes;
      shows = rw r.served.message refl;
      class_is = r.served.request;
      grant = reported_grant recorded.grant;
      granted = record { reply = reply; replied = is; made = recorded.grant; reported = refl; granted_by = made };
      for = is_for d.bytes reply d.source d.decision made.shows made.algorithm _ _ (record { method = step.method; number = step.number }) h.reported made.read.shows recorded.grant made.granted_by;
      from_is = recorded.source;
      stored = ap (map reported_grant) recorded.stored ∙ map-append reported_grant d.before.grants (recorded.grant ∷ []);
    }

-- ---- the step

pub desk_run : (d : DeskCall) → IsHandled d → DeskStep stun_wire desk_words d
desk_run d h = record {
  responds = λ reply m is shows.
      let r = replied d h reply is in
      let step = answer_step d.before d.after d.source d.bytes reply d.now d.stream d.decision r.served r.answer in
      subst (λ (x : Message). IsResponse x.class) (read_of reply m shows) (response_class (class_of (kind_at reply)) step.responds);
  grants = λ reply m is shows class.
      let reported = read_of reply m shows in
      subst (λ (x : Message). Grants stun_wire desk_words d reply x) reported (grants_by d h reply is (ap (λ (x : Message). x.class) reported ∙ class));
  refuses = λ reply m is shows class.
      let reported = read_of reply m shows in
      let r = replied d h reply is in
      let step = answer_step d.before d.after d.source d.bytes reply d.now d.stream d.decision r.served r.answer in
      ap (λ (x : Message). x.connection) (sym reported) ∙ ap (number_in 4) (none_found connection_id_kind (visible reply) (step.refuses (ap (λ (x : Message). x.class) reported ∙ class)));
  validates = λ key algorithm accepted.
      let r = replied d h accepted.reply accepted.replied in
      let valid = valid_by d h accepted.reply key algorithm r.answer accepted.stored in
      (valid.text, valid.valid);
  keyed = λ key algorithm accepted.
      let r = replied d h accepted.reply accepted.replied in
      keyed_by d accepted.reply key algorithm r.answer accepted.stored;
  signs = λ key text reply a accepted is cover.
      let r = replied d h reply is in
      signed_by d reply key text a a r r.answer accepted.stored cover;
  keeps = λ g is. keeps_by d d.reply h.outcome g is;
}
