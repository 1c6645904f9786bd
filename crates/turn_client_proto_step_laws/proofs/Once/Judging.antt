-- The verdict on a message and the authenticator afterwards are determined, unless memory runs out.
use Rattle.std.proofs.Common.{◌≡◌, ◌≢◌, ℕ, Bool, List, Option, Some, Result, Ok, Err, refl, sym, ap, ◌∙◌, subst, inl, inr}
use Rattle.turn_client_proto_timers.specs.StunTypesWire.declared.algorithm.IntegrityAlgorithm.{IntegrityAlgorithm}
use Rattle.turn_client_proto_timers.specs.StunTypesWire.declared.algorithm.IntegrityAlgorithm.TheVariants.{Sha1, Sha256, Sha512}
use Rattle.turn_client_proto_recv.proofs.StunTypesMessage.Validating.{none_validates}
use Rattle.turn_client_proto_recv.specs.StunProtoClient.Challenges.{ChallengeFields, list_for_choice}
use Rattle.turn_client_proto_recv.specs.StunProtoClient.Choice.{IsStrongest}
use Rattle.turn_client_proto_recv.specs.StunProtoClient.Client.{Client, Standing, standing_key}
use Rattle.turn_client_proto_recv.specs.StunProtoClient.declared.error.LongTermClientAuthError.{LongTermClientAuthError}
use Rattle.turn_client_proto_recv.specs.StunProtoClient.declared.error.LongTermClientAuthError.TheVariants.{Unauthorized, IntegrityFailed, UnsupportedFeature, NoMemory}
use Rattle.turn_client_proto_recv.specs.StunProtoClient.ClientValidation.{IsAnswerable, IsForged, IsResent, IsUnanswerable, IsUnauthorized, IsUnsupported, IsValidated, going_by, keeping}
use Rattle.turn_client_proto_recv.specs.StunProtoClient.declared.validation.LongTermClientValidation.{LongTermClientValidation}
use Rattle.turn_client_proto_recv.specs.StunProtoClient.declared.validation.LongTermClientValidation.TheVariants.{ResendRequest, Validated}
use Rattle.turn_client_proto_recv.specs.StunProtoClient.Digests.{IsRight}
use Rattle.turn_client_proto_timers.specs.Messages.Judging.{IsJudged}
use Rattle.turn_client_proto_step_laws.proofs.Once.Outcomes.{some_none, some_some}

abbrev pub Verdict : Type 0
Verdict = Result LongTermClientValidation LongTermClientAuthError

abbrev pub resend : IntegrityAlgorithm → Verdict
resend algorithm = Ok (ResendRequest algorithm)

abbrev pub valid : IntegrityAlgorithm → Verdict
valid algorithm = Ok (Validated algorithm)

abbrev pub forged : IntegrityAlgorithm → Verdict
forged algorithm = Err (IntegrityFailed algorithm)

abbrev pub no_memory : Verdict
no_memory = Err NoMemory

-- ---- what excludes what

-- Two algorithms than which none is stronger are equal.
strongest_same : (own : List IntegrityAlgorithm) (hardened : Bool) (offered : Option (List ℕ)) (a b : IntegrityAlgorithm) → IsStrongest own hardened offered a → IsStrongest own hardened offered b → a ≡ b
strongest_same own hardened offered Sha1 Sha1 x y = refl
strongest_same own hardened offered Sha1 Sha256 x y = absurd (Prim.cc (x.greatest Sha256 y.common))
strongest_same own hardened offered Sha1 Sha512 x y = absurd (Prim.cc (x.greatest Sha512 y.common))
strongest_same own hardened offered Sha256 Sha1 x y = absurd (Prim.cc (y.greatest Sha256 x.common))
strongest_same own hardened offered Sha256 Sha256 x y = refl
strongest_same own hardened offered Sha256 Sha512 x y = absurd (Prim.cc (x.greatest Sha512 y.common))
strongest_same own hardened offered Sha512 Sha1 x y = absurd (Prim.cc (y.greatest Sha512 x.common))
strongest_same own hardened offered Sha512 Sha256 x y = absurd (Prim.cc (y.greatest Sha512 x.common))
strongest_same own hardened offered Sha512 Sha512 x y = refl

-- A challenge can't be both answerable and unanswerable.
answerable_not : (client : Client) (reported : ChallengeFields) (choice : IntegrityAlgorithm) → IsAnswerable client reported choice → IsUnanswerable client reported → ⊥
answerable_not client reported choice is cause = elim cause [
  | inl none ↦ Prim.cc (sym (none choice) ∙ is.strongest.common)
  | inr other ↦ elim other [
    | inl known ↦ Prim.cc (sym known ∙ is.anonymous)
    | inr bare ↦ Prim.cc (sym bare ∙ is.listed)
  ]
]

module _ (old : Client) (bytes : List ℕ) (one other : Client) where
  not_answerable : (choice : IntegrityAlgorithm) → IsResent old bytes choice one → IsUnsupported old bytes other → ⊥
  not_answerable choice r u =
      let reported : u.reported ≡ r.reported = some_some u.reported r.reported _ u.visible r.visible in
      answerable_not old r.reported choice r.answerable (subst (λ (t : ChallengeFields). IsUnanswerable old t) reported u.unanswerable)

  not_authorized : (algorithm : IntegrityAlgorithm) → IsValidated old bytes algorithm one → IsUnauthorized old bytes other → ⊥
  not_authorized algorithm v u = elim u.cause [
    | inl absent ↦ none_validates bytes (standing_key v.standing).bytes (standing_key v.standing).algorithm v.right.text absent v.right.validates
    | inr absent ↦ some_none v.standing _ v.occurs absent
  ]

  not_forged : (algorithm last : IntegrityAlgorithm) → IsValidated old bytes algorithm one → IsForged old bytes last other → ⊥
  not_forged algorithm last v f =
      let right : IsRight bytes (standing_key f.standing) = subst (λ (s : Standing). IsRight bytes (standing_key s)) (some_some v.standing f.standing _ v.occurs f.occurs) v.right in
      f.wrong.wrong right.text right.validates

  not_unsigned : (last : IntegrityAlgorithm) → IsUnauthorized old bytes one → IsForged old bytes last other → ⊥
  not_unsigned last u f = elim u.cause [
    | inl absent ↦ some_none last _ f.last absent
    | inr absent ↦ some_none f.standing _ f.occurs absent
  ]

-- ---- two verdicts

module _ (old : Client) (bytes : List ℕ) (one other : Client) where
  abbrev pub Agree : Verdict → Verdict → Type 0
  Agree verdict again = (verdict ≡ again) × (one ≡ other)

  both_resent : (choice again : IntegrityAlgorithm) → IsResent old bytes choice one → IsResent old bytes again other → Agree (resend choice) (resend again)
  both_resent choice again r s =
      let reported : r.reported ≡ s.reported = some_some r.reported s.reported _ r.visible s.visible in
      let strongest = subst (λ (t : ChallengeFields). IsStrongest old.algorithms old.hardened (list_for_choice old.hardened t) choice) reported r.answerable.strongest in
      let same : choice ≡ again = strongest_same old.algorithms old.hardened (list_for_choice old.hardened s.reported) choice again strongest s.answerable.strongest in
      (ap resend same, r.stored ∙ ap (λ (t : ChallengeFields). keeping old t choice) reported ∙ ap (keeping old s.reported) same ∙ sym s.stored)

  both_valid : (algorithm again : IntegrityAlgorithm) → IsValidated old bytes algorithm one → IsValidated old bytes again other → Agree (valid algorithm) (valid again)
  both_valid algorithm again v w =
      let standing : v.standing ≡ w.standing = some_some v.standing w.standing _ v.occurs w.occurs in
      let same : algorithm ≡ again = v.chosen ∙ ap (λ (s : Standing). s.challenge.choice) standing ∙ sym w.chosen in
      (ap valid same, v.stored ∙ ap (λ (a : IntegrityAlgorithm). going_by old (Some a)) same ∙ sym w.stored)

  both_forged : (last again : IntegrityAlgorithm) → IsForged old bytes last one → IsForged old bytes again other → Agree (forged last) (forged again)
  both_forged last again f g =
      let standing : f.standing ≡ g.standing = some_some f.standing g.standing _ f.occurs g.occurs in
      (ap forged (some_some last again _ f.last g.last), f.stored ∙ ap (λ (s : Standing). going_by old (Some s.challenge.choice)) standing ∙ sym g.stored)

  after_resent : (choice : IntegrityAlgorithm) (again : Verdict) → IsResent old bytes choice one → IsJudged old bytes again other → again ≢ no_memory → Agree (resend choice) again
  after_resent choice (Ok (ResendRequest c)) r s ample = both_resent choice c r s
  after_resent choice (Ok (Validated a)) r s ample = absurd (some_none r.reported _ r.visible s.no_challenge)
  after_resent choice (Err Unauthorized) r s ample = absurd (some_none r.reported _ r.visible s.no_challenge)
  after_resent choice (Err (IntegrityFailed a)) r s ample = absurd (some_none r.reported _ r.visible s.no_challenge)
  after_resent choice (Err UnsupportedFeature) r s ample = absurd (not_answerable old bytes one other choice r s)
  after_resent choice (Err NoMemory) r s ample = absurd (ample refl)

  after_valid : (algorithm : IntegrityAlgorithm) (again : Verdict) → IsValidated old bytes algorithm one → IsJudged old bytes again other → again ≢ no_memory → Agree (valid algorithm) again
  after_valid algorithm (Ok (ResendRequest c)) v s ample = absurd (some_none s.reported _ s.visible v.no_challenge)
  after_valid algorithm (Ok (Validated a)) v s ample = both_valid algorithm a v s
  after_valid algorithm (Err Unauthorized) v s ample = absurd (not_authorized old bytes one other algorithm v s)
  after_valid algorithm (Err (IntegrityFailed a)) v s ample = absurd (not_forged old bytes one other algorithm a v s)
  after_valid algorithm (Err UnsupportedFeature) v s ample = absurd (some_none s.reported _ s.visible v.no_challenge)
  after_valid algorithm (Err NoMemory) v s ample = absurd (ample refl)

  after_unauthorized : (again : Verdict) → IsUnauthorized old bytes one → IsJudged old bytes again other → again ≢ no_memory → Agree (Err Unauthorized) again
  after_unauthorized (Ok (ResendRequest c)) u s ample = absurd (some_none s.reported _ s.visible u.no_challenge)
  after_unauthorized (Ok (Validated a)) u s ample = absurd (not_authorized old bytes other one a s u)
  after_unauthorized (Err Unauthorized) u s ample = (refl, u.stored ∙ sym s.stored)
  after_unauthorized (Err (IntegrityFailed a)) u s ample = absurd (not_unsigned old bytes one other a u s)
  after_unauthorized (Err UnsupportedFeature) u s ample = absurd (some_none s.reported _ s.visible u.no_challenge)
  after_unauthorized (Err NoMemory) u s ample = absurd (ample refl)

  after_forged : (last : IntegrityAlgorithm) (again : Verdict) → IsForged old bytes last one → IsJudged old bytes again other → again ≢ no_memory → Agree (forged last) again
  after_forged last (Ok (ResendRequest c)) f s ample = absurd (some_none s.reported _ s.visible f.no_challenge)
  after_forged last (Ok (Validated a)) f s ample = absurd (not_forged old bytes other one a last s f)
  after_forged last (Err Unauthorized) f s ample = absurd (not_unsigned old bytes other one last s f)
  after_forged last (Err (IntegrityFailed a)) f s ample = both_forged last a f s
  after_forged last (Err UnsupportedFeature) f s ample = absurd (some_none s.reported _ s.visible f.no_challenge)
  after_forged last (Err NoMemory) f s ample = absurd (ample refl)

  after_unsupported : (again : Verdict) → IsUnsupported old bytes one → IsJudged old bytes again other → again ≢ no_memory → Agree (Err UnsupportedFeature) again
  after_unsupported (Ok (ResendRequest c)) u s ample = absurd (not_answerable old bytes other one c s u)
  after_unsupported (Ok (Validated a)) u s ample = absurd (some_none u.reported _ u.visible s.no_challenge)
  after_unsupported (Err Unauthorized) u s ample = absurd (some_none u.reported _ u.visible s.no_challenge)
  after_unsupported (Err (IntegrityFailed a)) u s ample = absurd (some_none u.reported _ u.visible s.no_challenge)
  after_unsupported (Err UnsupportedFeature) u s ample = (refl, u.unchanged ∙ sym s.unchanged)
  after_unsupported (Err NoMemory) u s ample = absurd (ample refl)

  pub judged_same : (verdict again : Verdict) → verdict ≢ no_memory → again ≢ no_memory → IsJudged old bytes verdict one → IsJudged old bytes again other → Agree verdict again
  judged_same (Ok (ResendRequest choice)) again enough ample a b = after_resent choice again a b ample
  judged_same (Ok (Validated algorithm)) again enough ample a b = after_valid algorithm again a b ample
  judged_same (Err Unauthorized) again enough ample a b = after_unauthorized again a b ample
  judged_same (Err (IntegrityFailed last)) again enough ample a b = after_forged last again a b ample
  judged_same (Err UnsupportedFeature) again enough ample a b = after_unsupported again a b ample
  judged_same (Err NoMemory) again enough ample a b = absurd (enough refl)
