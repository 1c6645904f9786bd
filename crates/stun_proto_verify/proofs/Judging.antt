-- What the decision on a message implies for the message.
use Rattle.std.proofs.Common.{◌≡◌, ◌≢◌, ℕ, Bool, true, false, ◌&&◌, List, Option, Some, None, refl, sym, ap, ◌∙◌, subst, nat_eq, is_some}
use Rattle.std.specs.Prelude.{Result, Ok, Err, IfOk, IfErr, IsErrAnd, MatchResult, MatchOption, if◌then◌else◌}
use Rattle.std.specs.Cmp.Lexicographic.{pointwise, same_text, nat_list_eq_equiv}
use Rattle.std.specs.Option.{option_or}
use Rattle.stun_proto_auth.specs.Wire.declared.algorithm.IntegrityAlgorithm.{IntegrityAlgorithm}
use Rattle.stun_proto_auth.specs.Wire.declared.error.ValidateError.{ValidateError}
use Rattle.stun_proto_auth.specs.Wire.declared.error.ValidateError.TheVariants as invalid
use Rattle.stun_proto_auth.specs.Wire.Grammar.{visible}
use Rattle.stun_proto_auth.specs.Integrity.Credentials.{Key, long_term_key}
use Rattle.stun_proto_auth.specs.Integrity.Integrity.{IsSigned, Validates}
use Rattle.stun_proto_auth.specs.Message.MessageValidation.{last_algorithm}
use Rattle.stun_proto_auth.proofs.Message.Validating.{signed_validates}
use Rattle.stun_proto_verify.specs.declared.error.LongTermServerAuthError.{LongTermServerAuthError}
use Rattle.stun_proto_verify.specs.declared.error.LongTermServerAuthError.TheVariants.{Unauthorized, IntegrityFailed, BadRequest, StaleNonce, NoMemory}
use Rattle.stun_proto_verify.specs.AuthErrors.{digest_error}
use Rattle.stun_proto_auth.specs.Claims.{Claimed, claimed}
use Rattle.stun_proto_verify.specs.Consistency.{is_consistent}
use Rattle.stun_proto_verify.specs.Knowledge.{Knowledge, Named, Outcome}
use Rattle.stun_proto_verify.specs.Judgement.{ServerAccepts, HasWrongDigest, IsAccepted, IsRefused, is_response, is_same_text, names_user, user_key, integrity_refusal, parts_refusal, nonce_refusal, algorithms_refusal, user_refusal, unnamed_refusal, claim_refusal, judgement}
use Rattle.stun_proto_verify.proofs.Consistent.{both, consistent_by, visible_consistent}

-- ---- the chunks of a claim that is not refused

or_none : {A : Type 0} (a b : Option A) → option_or a b ≡ None → (a ≡ None) × (b ≡ None)
or_none (Some x) b h = absurd cc
or_none None b h = (refl, h)

-- A check that does not fail has passed.
passes : (b : Bool) (error : LongTermServerAuthError) → (if b then None else Some error) ≡ None → b ≡ true
passes true error h = refl
passes false error h = absurd cc

-- A text that is present.
record Text (o : Option (List ℕ)) : Type 0 where
  text : List ℕ
  is : o ≡ Some text

text_of : (o : Option (List ℕ)) → is_some o ≡ true → Text o
text_of None h = absurd (Prim.cc h)
text_of (Some text) h = record { text = text; is = refl }

-- Two texts that are present and equal.
record SameText (a b : Option (List ℕ)) : Type 0 where
  text : List ℕ
  first : a ≡ Some text
  second : b ≡ Some text

same_text_of : (a b : Option (List ℕ)) → is_same_text a b ≡ true → SameText a b
same_text_of None b h = absurd (Prim.cc h)
same_text_of (Some x) None h = absurd (Prim.cc h)
same_text_of (Some x) (Some y) h = record { text = x; first = refl; second = ap (λ t. Some t) (sym (same_text x y (sym h))) }

pub record Passed (known : Knowledge) (claim : Claimed) : Type 0 where
  pub named : names_user known.anonymous_username claim ≡ true
  pub realm : List ℕ
  pub has_realm : claim.realm ≡ Some realm
  pub nonce : List ℕ
  pub has_nonce : claim.nonce ≡ Some nonce
  pub occurs : known.nonce ≡ Some nonce
  pub consistent : is_consistent known.algorithms claim claim.integrity ≡ true

pub passed : (known : Knowledge) (claim : Claimed) → unnamed_refusal known claim ≡ None → Passed known claim
unfolding unnamed_refusal
passed known claim h =
    let one = or_none (integrity_refusal claim.integrity) _ h in
    let two = or_none (parts_refusal known.anonymous_username claim) _ one.1 in
    let three = or_none (nonce_refusal claim.nonce known.nonce) _ two.1 in
    let parts = both (names_user known.anonymous_username claim) (is_some claim.realm && is_some claim.nonce) (passes _ BadRequest two.0) in
    let realm = text_of claim.realm (both (is_some claim.realm) (is_some claim.nonce) parts.1).0 in
    let nonce = same_text_of claim.nonce known.nonce (passes _ StaleNonce three.0) in
    record {
      named = parts.0;
      realm = realm.text;
      has_realm = realm.is;
      nonce = nonce.text;
      has_nonce = nonce.first;
      occurs = nonce.second;
      consistent = passes _ BadRequest three.1;
    }

-- ---- a message that is no response

pub judged_claim : (known : Knowledge) (bytes : List ℕ) (answer : Option LongTermServerAuthError) → is_response bytes ≡ false → claim_refusal known (claimed bytes) ≡ answer → judgement known bytes ≡ answer
unfolding judgement
judged_claim known bytes answer other is = ap (λ (b : Bool). option_or (if b then Some BadRequest else None) (claim_refusal known (claimed bytes))) other ∙ is

-- A claim that passed without its user is refused only for the user.
judged_user : (known : Knowledge) (bytes : List ℕ) → is_response bytes ≡ false → unnamed_refusal known (claimed bytes) ≡ None → judgement known bytes ≡ user_refusal known.user
unfolding claim_refusal
judged_user known bytes other none = judged_claim known bytes (user_refusal known.user) other (ap (λ (o : Option LongTermServerAuthError). option_or o (user_refusal known.user)) none)

-- Whatever the user is, a claim that is refused without one is refused.
judged_unnamed : (known : Knowledge) (bytes : List ℕ) (error : LongTermServerAuthError) → is_response bytes ≡ false → unnamed_refusal known (claimed bytes) ≡ Some error → judgement known bytes ≡ Some error
unfolding claim_refusal
judged_unnamed known bytes error other cause = judged_claim known bytes (Some error) other (ap (λ (o : Option LongTermServerAuthError). option_or o (user_refusal known.user)) cause)

pub accepts : (known : Knowledge) (bytes : List ℕ) (algorithm : IntegrityAlgorithm) (name password : List ℕ) → is_response bytes ≡ false
    → unnamed_refusal known (claimed bytes) ≡ None → (claimed bytes).integrity ≡ Some algorithm → known.user ≡ Some (record { name = name; password = password })
    → (text : List ℕ) × Validates bytes (user_key known.realm name password algorithm) algorithm text → ServerAccepts known bytes algorithm name
accepts known bytes algorithm name password other none last present valid =
    let parts = passed known (claimed bytes) none in
    record {
      no_response = other;
      last = last;
      named = parts.named;
      realm = parts.realm;
      has_realm = parts.has_realm;
      nonce = parts.nonce;
      has_nonce = parts.has_nonce;
      occurs = parts.occurs;
      consistent = consistent_by known.algorithms (claimed bytes) algorithm
          (ap (λ (o : Option IntegrityAlgorithm). is_consistent known.algorithms (claimed bytes) o) (sym last) ∙ parts.consistent);
      password = password;
      present = present;
      text = valid.0;
      validates = valid.1;
    }

refused_by : (known : Knowledge) (bytes : List ℕ) (error cause : LongTermServerAuthError) → judgement known bytes ≡ Some cause → error ≡ cause → IsRefused known bytes error
refused_by known bytes error cause judged is =
    subst (λ (o : Option LongTermServerAuthError). MatchOption o (HasWrongDigest known bytes error) (λ c. error ≡ c)) (sym judged) is

-- Refused without its user.
pub refuses_claim : (known : Knowledge) (bytes : List ℕ) (claim : Claimed) (error : LongTermServerAuthError) → claim ≡ claimed bytes → is_response bytes ≡ false
    → unnamed_refusal known claim ≡ Some error → IsRefused known bytes error
refuses_claim known bytes claim error is other cause =
    refused_by known bytes error error (judged_unnamed known bytes error other (ap (unnamed_refusal known) (sym is) ∙ cause)) refl

-- Refused for its user.
pub refuses_user : (known : Knowledge) (bytes : List ℕ) (error : LongTermServerAuthError) → is_response bytes ≡ false
    → unnamed_refusal known (claimed bytes) ≡ None → (error ≡ Unauthorized) × (known.user ≡ None) → IsRefused known bytes error
refuses_user known bytes error other none refused =
    refused_by known bytes error Unauthorized (judged_user known bytes other none ∙ ap user_refusal refused.1) refused.0

some_same : {A : Type 0} (x y : A) → Some x ≡ Some y → x ≡ y
some_same x y h = cc

pub refuses_digest : (known : Knowledge) (bytes : List ℕ) (algorithm : IntegrityAlgorithm) (name password : List ℕ) (error : LongTermServerAuthError) → is_response bytes ≡ false
    → unnamed_refusal known (claimed bytes) ≡ None → (claimed bytes).integrity ≡ Some algorithm → known.user ≡ Some (record { name = name; password = password })
    → (error ≡ IntegrityFailed algorithm) × ((text : List ℕ) → ¬ Validates bytes (user_key known.realm name password algorithm) algorithm text) → IsRefused known bytes error
refuses_digest known bytes algorithm name password error other none last present wrong =
    subst (λ (o : Option LongTermServerAuthError). MatchOption o (HasWrongDigest known bytes error) (λ c. error ≡ c))
    (sym (judged_user known bytes other none ∙ ap user_refusal present))
    (record {
      algorithm = algorithm;
      last = last;
      is = wrong.0;
      wrong = λ user text is-user v.
          let same = some_same user (record { name = name; password = password }) (sym is-user ∙ present) in
          wrong.1 text (subst (λ (u : Named). Validates bytes (user_key known.realm u.name u.password algorithm) algorithm text) same v);
    })

-- ---- what is accepted is refused for no cause

pub no_cause : (known : Knowledge) (bytes : List ℕ) (algorithm : IntegrityAlgorithm) (name : List ℕ) → ServerAccepts known bytes algorithm name → judgement known bytes ≡ None
unfolding judgement claim_refusal unnamed_refusal
no_cause known bytes algorithm name a =
    let same : pointwise nat_eq a.nonce a.nonce ≡ true = nat_list_eq_equiv.refl a.nonce in
    let fits = visible_consistent known.algorithms (claimed bytes) algorithm a.consistent in
    rw (a.no_response, a.last, a.named, a.has_realm, a.has_nonce, a.occurs, a.present, same, fits) refl

pub not_both : (known : Knowledge) (bytes : List ℕ) (algorithm : IntegrityAlgorithm) (name : List ℕ) (error : LongTermServerAuthError) → ServerAccepts known bytes algorithm name → IsRefused known bytes error → ⊥
not_both known bytes algorithm name error a r =
    let w = subst (λ (o : Option LongTermServerAuthError). MatchOption o (HasWrongDigest known bytes error) (λ c. error ≡ c)) (no_cause known bytes algorithm name a) r in
    let same = some_same algorithm w.algorithm (sym a.last ∙ w.last) in
    w.wrong (record { name = name; password = a.password }) a.text a.present (subst (λ (b : IntegrityAlgorithm). Validates bytes (user_key known.realm name a.password b) b a.text) same a.validates)

pub same_outcome : (known : Knowledge) (bytes : List ℕ) (algorithm other : IntegrityAlgorithm) (name another : List ℕ) → ServerAccepts known bytes algorithm name → ServerAccepts known bytes other another
    → ◌≡◌ {A = Outcome} (record { name = name; algorithm = algorithm }) (record { name = another; algorithm = other })
same_outcome known bytes algorithm other name another a b =
    let users = some_same {A = Named} (record { name = name; password = a.password }) (record { name = another; password = b.password }) (sym a.present ∙ b.present) in
    let names = ap (λ (u : Named). u.name) users in
    let algorithms = some_same algorithm other (sym a.last ∙ b.last) in
    λ i. record { name = names i; algorithm = algorithms i }

pub answers : (known : Knowledge) (bytes : List ℕ) (result : Result Outcome LongTermServerAuthError)
    → IfOk result (λ user. ServerAccepts known bytes user.algorithm user.name) → IfErr result (λ error. error ≢ NoMemory → IsRefused known bytes error)
    → (algorithm : IntegrityAlgorithm) (name : List ℕ) → ServerAccepts known bytes algorithm name → MatchResult result (λ user. user ≡ record { name = name; algorithm = algorithm }) (λ error. error ≡ NoMemory)
answers known bytes (Ok user) valid refused algorithm name a = same_outcome known bytes user.algorithm algorithm user.name name valid a
answers known bytes (Err NoMemory) valid refused algorithm name a = refl
answers known bytes (Err Unauthorized) valid refused algorithm name a = absurd (not_both known bytes algorithm name Unauthorized a (refused (λ p. Prim.cc p)))
answers known bytes (Err BadRequest) valid refused algorithm name a = absurd (not_both known bytes algorithm name BadRequest a (refused (λ p. Prim.cc p)))
answers known bytes (Err StaleNonce) valid refused algorithm name a = absurd (not_both known bytes algorithm name StaleNonce a (refused (λ p. Prim.cc p)))
answers known bytes (Err (IntegrityFailed x)) valid refused algorithm name a = absurd (not_both known bytes algorithm name (IntegrityFailed x) a (refused (λ p. Prim.cc p)))

-- ---- the digest

-- A message that is signed under the user's key, with the algorithm of its last integrity attribute,
-- validates.
pub valid_by : (bytes : List ℕ) (key : Key) (realm name password : List ℕ) (algorithm answered : IntegrityAlgorithm) → key ≡ long_term_key (record { username = name; password = password; realm = realm }) algorithm → last_algorithm (visible bytes) ≡ Some algorithm
    → (answered ≡ key.algorithm) × ((text : List ℕ) × IsSigned bytes key.bytes answered text) → (text : List ℕ) × Validates bytes (user_key realm name password algorithm) algorithm text
valid_by bytes key realm name password algorithm answered is last valid =
    let own = user_key realm name password algorithm in
    let same : answered ≡ algorithm = valid.0 ∙ ap (λ (k : Key). k.algorithm) is in
    let signed : IsSigned bytes own algorithm valid.1.0 =
    subst (λ (a : IntegrityAlgorithm). IsSigned bytes own a valid.1.0) same (subst (λ (k : Key). IsSigned bytes k.bytes answered valid.1.0) is valid.1.1) in
    (valid.1.0, signed_validates bytes own algorithm valid.1.0 last signed)

-- A validation error is mapped to that of a wrong digest.
pub is_wrong : (algorithm : IntegrityAlgorithm) (error : ValidateError) → digest_error algorithm error ≡ IntegrityFailed algorithm
is_wrong algorithm (invalid.Parse cause) = refl
is_wrong algorithm invalid.IntegrityFailed = refl

pub wrong_by : (bytes : List ℕ) (key : Key) (realm name password : List ℕ) (algorithm : IntegrityAlgorithm) (error : ValidateError) (answered : LongTermServerAuthError) → answered ≡ digest_error algorithm error → key ≡ long_term_key (record { username = name; password = password; realm = realm }) algorithm
    → ((text : List ℕ) → ¬ IsSigned bytes key.bytes key.algorithm text)
    → (answered ≡ IntegrityFailed algorithm) × ((text : List ℕ) → ¬ Validates bytes (user_key realm name password algorithm) algorithm text)
wrong_by bytes key realm name password algorithm error answered made is not_signed =
    (made ∙ is_wrong algorithm error, λ text v. not_signed text (subst (λ (k : Key). IsSigned bytes k.bytes k.algorithm text) (sym is) v.signed))

-- The user that is returned is the one that was found.
pub accepts_user : (known : Knowledge) (bytes : List ℕ) (algorithm : IntegrityAlgorithm) (name copy : List ℕ) (user : Outcome) → user ≡ record { name = copy; algorithm = algorithm } → copy ≡ name → ServerAccepts known bytes algorithm name → ServerAccepts known bytes user.algorithm user.name
accepts_user known bytes algorithm name copy user is same a =
    subst (λ (u : Outcome). ServerAccepts known bytes u.algorithm u.name) (sym (is ∙ (λ i. record { name = same i; algorithm = algorithm }))) a

pub digest_refused : (known : Knowledge) (bytes : List ℕ) (algorithm : IntegrityAlgorithm) (name password realm : List ℕ) (result : Result Outcome LongTermServerAuthError) (error : LongTermServerAuthError) → is_response bytes ≡ false
    → unnamed_refusal known (claimed bytes) ≡ None → (claimed bytes).integrity ≡ Some algorithm → known.user ≡ Some (record { name = name; password = password }) → realm ≡ known.realm
    → IsErrAnd result (λ e. e ≡ error) → (error ≡ IntegrityFailed algorithm) × ((text : List ℕ) → ¬ Validates bytes (user_key realm name password algorithm) algorithm text)
    → IfErr result (λ e. e ≢ NoMemory → IsRefused known bytes e)
digest_refused known bytes algorithm name password realm (Ok user) error other none last present own answer wrong = tt
digest_refused known bytes algorithm name password realm (Err e) error other none last present own answer wrong =
    λ cause. refuses_digest known bytes algorithm name password e other none last present
    (subst (λ (r : List ℕ). (e ≡ IntegrityFailed algorithm) × ((text : List ℕ) → ¬ Validates bytes (user_key r name password algorithm) algorithm text)) own (answer ∙ wrong.0, wrong.1))

-- A wrong digest is not reported as `NoMemory`.
pub not_memory : (known : Knowledge) (bytes : List ℕ) (algorithm : IntegrityAlgorithm) (result : Result Outcome LongTermServerAuthError) (error : LongTermServerAuthError) → IsErrAnd result (λ e. e ≡ error) → error ≡ IntegrityFailed algorithm → result ≡ Err NoMemory → IsAccepted known bytes
not_memory known bytes algorithm (Ok user) error answer is memory = absurd (Prim.cc memory)
not_memory known bytes algorithm (Err e) error answer is memory = absurd (let same : e ≡ NoMemory = Prim.cc memory in let other : IntegrityFailed algorithm ≡ NoMemory = sym is ∙ sym answer ∙ same in Prim.cc other)

-- The key is that of the server's realm.
pub in_realm : (bytes realm own name password : List ℕ) (algorithm : IntegrityAlgorithm) → realm ≡ own → (text : List ℕ) × Validates bytes (user_key realm name password algorithm) algorithm text → (text : List ℕ) × Validates bytes (user_key own name password algorithm) algorithm text
in_realm bytes realm own name password algorithm is valid = (valid.0, subst (λ (r : List ℕ). Validates bytes (user_key r name password algorithm) algorithm valid.0) is valid.1)

-- The cases of the decision.
pub ruleset judgements = (accepts, refuses_claim, refuses_user, refuses_digest)
