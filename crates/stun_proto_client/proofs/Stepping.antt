-- What a validation preserves and accepts, and under which key a client signs.
use Rattle.std.proofs.Common.{◌≡◌, ℕ, List, Option, Some, None, refl, sym, ap, ◌∙◌, subst, inl, inr}
use Rattle.std.specs.Option.{option_or}
use Rattle.std.specs.Prelude.{Result, Ok, Err, MatchResult}
use Rattle.stun_proto_auth.specs.Wire.declared.algorithm.IntegrityAlgorithm.{IntegrityAlgorithm}
use Rattle.stun_proto_auth.specs.Wire.declared.class.MessageClass.{MessageClass}
use Rattle.stun_proto_auth.specs.Wire.declared.class.MessageClass.TheVariants.{Request, Indication, Success, Error}
use Rattle.stun_proto_auth.specs.Integrity.Credentials.{Key, NameAndPassword}
use Rattle.stun_proto_auth.proofs.Message.Validating.{validates_last}
use Rattle.stun_proto_client.specs.Challenges.{challenge_visible}
use Rattle.stun_proto_client.specs.Client.{Challenge, Client, Standing, standing_by, standing_key, standing_of}
use Rattle.stun_proto_client.specs.ClientSigning.{addition_by, addition_for}
use Rattle.stun_proto_client.specs.ClientSteps.{AuthStep, IsKeyOf, accepted_by}
use Rattle.stun_proto_client.specs.ClientValidation.{IsResent, IsTaken, IsRejected, IsUnauthorized, IsValidated}
use Rattle.stun_proto_client.specs.Digests.{IsRight}
use Rattle.stun_proto_client.specs.declared.error.LongTermClientAuthError.{LongTermClientAuthError}
use Rattle.stun_proto_client.specs.declared.error.LongTermClientAuthError.TheVariants.{Unauthorized, IntegrityFailed, UnsupportedFeature, NoMemory}
use Rattle.stun_proto_client.specs.declared.validation.LongTermClientValidation.{LongTermClientValidation}
use Rattle.stun_proto_client.specs.declared.validation.LongTermClientValidation.TheVariants.{ResendRequest, Validated}

-- ---- the client's key

own_account : (account : Option NameAndPassword) (challenge : Option Challenge) (s : Standing) → standing_by account challenge ≡ Some s → account ≡ Some s.account
own_account None challenge s is = absurd (Prim.cc is)
own_account (Some account) None s is = absurd (Prim.cc is)
own_account (Some account) (Some challenge) s is =
    let same : record { account = account; challenge = challenge } ≡ s = cc in
    ap (λ (t : Standing). Some t.account) same

own_key : (client : Client) (s : Standing) → standing_of client ≡ Some s → IsKeyOf client (standing_key s)
own_key client s is = record {
  account = s.account;
  own = own_account client.account client.challenge s is;
  realm = s.challenge.realm;
  algorithm = s.challenge.choice;
  is = refl;
}

-- ---- a step

pub resent : (old : Client) (bytes : List ℕ) (choice : IntegrityAlgorithm) (new : Client) → IsResent old bytes choice new → AuthStep old bytes None new
resent old bytes choice new r = record {
  account = λ none. ap (λ (c : Client). c.account) r.stored ∙ ap (λ (o : Option NameAndPassword). option_or o old.account) none;
  next_account = λ none. ap (λ (c : Client). c.next_account) r.stored;
  algorithms = ap (λ (c : Client). c.algorithms) r.stored;
  anonymous_username = ap (λ (c : Client). c.anonymous_username) r.stored;
  hardened = ap (λ (c : Client). c.hardened) r.stored;
  style = ap (λ (c : Client). c.style) r.stored;
  from_server = tt;
}

going : (old : Client) (bytes : List ℕ) (by : Option IntegrityAlgorithm) (new : Client) → new ≡ record old { integrity = by } → AuthStep old bytes None new
going old bytes by new stored = record {
  account = λ none. ap (λ (c : Client). c.account) stored;
  next_account = λ none. ap (λ (c : Client). c.next_account) stored ∙ none;
  algorithms = ap (λ (c : Client). c.algorithms) stored;
  anonymous_username = ap (λ (c : Client). c.anonymous_username) stored;
  hardened = ap (λ (c : Client). c.hardened) stored;
  style = ap (λ (c : Client). c.style) stored;
  from_server = tt;
}

same : (old : Client) (bytes : List ℕ) (new : Client) → new ≡ old → AuthStep old bytes None new
same old bytes new stored = record {
  account = λ none. ap (λ (c : Client). c.account) stored;
  next_account = λ none. ap (λ (c : Client). c.next_account) stored ∙ none;
  algorithms = ap (λ (c : Client). c.algorithms) stored;
  anonymous_username = ap (λ (c : Client). c.anonymous_username) stored;
  hardened = ap (λ (c : Client). c.hardened) stored;
  style = ap (λ (c : Client). c.style) stored;
  from_server = tt;
}

validated : (old : Client) (bytes : List ℕ) (algorithm : IntegrityAlgorithm) (new : Client) → IsValidated old bytes algorithm new → AuthStep old bytes (Some algorithm) new
validated old bytes algorithm new v = record {
  account = λ none. ap (λ (c : Client). c.account) v.stored;
  next_account = λ none. ap (λ (c : Client). c.next_account) v.stored ∙ none;
  algorithms = ap (λ (c : Client). c.algorithms) v.stored;
  anonymous_username = ap (λ (c : Client). c.anonymous_username) v.stored;
  hardened = ap (λ (c : Client). c.hardened) v.stored;
  style = ap (λ (c : Client). c.style) v.stored;
  from_server = record {
    key = standing_key v.standing;
    own = own_key old v.standing v.occurs;
    by_algorithm = sym v.chosen;
    right = v.right;
  };
}

pub step_of : (old new : Client) (bytes : List ℕ) (result : Result LongTermClientValidation LongTermClientAuthError)
    → MatchResult result (λ answer. IsTaken old bytes answer new) (λ error. IsRejected old bytes error new) → AuthStep old bytes (accepted_by result) new
step_of old new bytes (Ok (ResendRequest choice)) r = resent old bytes choice new r
step_of old new bytes (Ok (Validated algorithm)) v = validated old bytes algorithm new v
step_of old new bytes (Err Unauthorized) u = going old bytes None new u.stored
step_of old new bytes (Err (IntegrityFailed algorithm)) f = going old bytes (Some f.standing.challenge.choice) new f.stored
step_of old new bytes (Err UnsupportedFeature) u = same old bytes new u.unchanged
step_of old new bytes (Err NoMemory) w = same old bytes new w.unchanged

-- ---- what is right is accepted

some_none : {A : Type 0} (x : A) (o : Option A) → o ≡ Some x → o ≡ None → ⊥
some_none x o is empty = absurd cc

some_some : {A : Type 0} (x y : A) (o : Option A) → o ≡ Some x → o ≡ Some y → x ≡ y
some_some x y o first second = cc

unauthorized_not : (old : Client) (bytes : List ℕ) (s : Standing) (new : Client) → standing_of old ≡ Some s → IsRight bytes (standing_key s) → IsUnauthorized old bytes new → ⊥
unauthorized_not old bytes s new occurs right u = elim u.cause [
  | inl absent ↦ some_none s.challenge.choice _ (validates_last bytes (standing_key s).bytes s.challenge.choice right.text right.validates) absent
  | inr absent ↦ some_none s _ occurs absent
]

pub right_is_accepted : (old new : Client) (bytes : List ℕ) (s : Standing) (result : Result LongTermClientValidation LongTermClientAuthError)
    → MatchResult result (λ answer. IsTaken old bytes answer new) (λ error. IsRejected old bytes error new) → challenge_visible bytes ≡ None → standing_of old ≡ Some s → IsRight bytes (standing_key s)
    → accepted_by result ≡ Some s.challenge.choice
right_is_accepted old new bytes s (Ok (ResendRequest choice)) r none occurs right = absurd (some_none r.reported _ r.visible none)
right_is_accepted old new bytes s (Ok (Validated algorithm)) v none occurs right =
    ap (λ (a : IntegrityAlgorithm). Some a) (v.chosen ∙ ap (λ (t : Standing). t.challenge.choice) (some_some v.standing s _ v.occurs occurs))
right_is_accepted old new bytes s (Err Unauthorized) u none occurs right = absurd (unauthorized_not old bytes s new occurs right u)
right_is_accepted old new bytes s (Err (IntegrityFailed algorithm)) f none occurs right =
    let again = subst (λ (t : Standing). IsRight bytes (standing_key t)) (some_some s f.standing _ occurs f.occurs) right in
    absurd (f.wrong.wrong again.text again.validates)
right_is_accepted old new bytes s (Err UnsupportedFeature) u none occurs right = absurd (some_none u.reported _ u.visible none)
right_is_accepted old new bytes s (Err NoMemory) w none occurs right = absurd (some_none w.reported _ w.visible none)

-- ---- what is signed

signs_by : (client : Client) (standing : Option Standing) (class : MessageClass) (key : Key) → standing_of client ≡ standing → (addition_by client.anonymous_username standing class).signer ≡ Some key → IsKeyOf client key
signs_by client None class key occurs is = absurd (Prim.cc is)
signs_by client (Some s) Request key occurs is = subst (IsKeyOf client) (some_some (standing_key s) key _ refl is) (own_key client s occurs)
signs_by client (Some s) Indication key occurs is = absurd (Prim.cc is)
signs_by client (Some s) Success key occurs is = subst (IsKeyOf client) (some_some (standing_key s) key _ refl is) (own_key client s occurs)
signs_by client (Some s) Error key occurs is = subst (IsKeyOf client) (some_some (standing_key s) key _ refl is) (own_key client s occurs)

pub signs_own : (client : Client) (class : MessageClass) (key : Key) → (addition_for client class).signer ≡ Some key → IsKeyOf client key
signs_own client class key is = signs_by client (standing_of client) class key refl is
