-- The realm that a client stores comes from a received challenge, or stays as it was.
use Rattle.std.proofs.Common.{◌≡◌, ◌⊎◌, ℕ, List, [], ◌∷◌, Option, Some, None, Result, Ok, Err, refl, sym, ap, ◌∙◌, inl, inr}
use Rattle.std.specs.Option.{option_map}
use Rattle.turn_client_proto_recv.specs.StunProtoClient.Challenges.{ChallengeFields}
use Rattle.turn_client_proto_recv.specs.StunProtoClient.Client.{Challenge}
use Rattle.turn_client_proto_recv.specs.StunProtoClient.Client as signers
use Rattle.turn_client_proto_recv.specs.StunProtoClient.declared.error.LongTermClientAuthError.{LongTermClientAuthError}
use Rattle.turn_client_proto_recv.specs.StunProtoClient.declared.error.LongTermClientAuthError.TheVariants.{Unauthorized, IntegrityFailed, UnsupportedFeature, NoMemory}
use Rattle.turn_client_proto_recv.specs.StunProtoClient.declared.validation.LongTermClientValidation.{LongTermClientValidation}
use Rattle.turn_client_proto_recv.specs.StunProtoClient.declared.validation.LongTermClientValidation.TheVariants.{ResendRequest, Validated}
use Rattle.turn_client_proto_timers.specs.TurnRuns.Members.{IsIn}
use Rattle.turn_client_proto_timers.specs.TurnRuns.StunWire.{stun_wire}
use Rattle.turn_client_proto_timers.specs.Messages.Judging.{IsJudged}
use Rattle.turn_client_proto_timers.specs.Core.Responding.{judged}
use Rattle.turn_client_proto_timers.specs.Core.declared.protocol.Phase.{Phase}
use Rattle.turn_client_proto_timers.specs.Core.declared.protocol.Phase.TheVariants.{Initial, InitialSent, Authenticating, Authenticated, Ended}
use Rattle.turn_client_proto_timers.specs.Core.declared.protocol.Protocol.{Protocol}
use Rattle.turn_client_proto_step_laws.specs.ClientWords.{challenge_in, challenge_of, realm_in}

-- ---- by how far a client is

-- A client in this phase has not ended: it signs and validates under its stored challenge.
abbrev pub IsGoing : Phase → Type 0
IsGoing phase = (stored : Option Challenge) → challenge_in phase stored ≡ stored

pub going_at : (phase other : Phase) → phase ≡ other → IsGoing other → IsGoing phase
going_at phase other is going stored = ap (λ (f : Phase). challenge_in f stored) is ∙ going stored

pub realm_stored : (phase : Phase) (stored : Option Challenge) (realm : List ℕ) → realm_in (challenge_in phase stored) ≡ Some realm → realm_in stored ≡ Some realm
realm_stored Initial stored realm is = is
realm_stored (InitialSent numbers) stored realm is = is
realm_stored (Authenticating numbers) stored realm is = is
realm_stored Authenticated stored realm is = is
realm_stored Ended stored realm is = absurd (Prim.cc is)

pub realm_going : (phase : Phase) (stored : Option Challenge) (realm : List ℕ) → IsGoing phase → realm_in stored ≡ Some realm → realm_in (challenge_in phase stored) ≡ Some realm
realm_going phase stored realm going is = ap realm_in (going stored) ∙ is

-- ---- from one client to another

-- The realm afterwards is the one before, or came in a received challenge.
abbrev pub TakesRealm : (came : List (List ℕ)) → (old new : Protocol) → Type 0
TakesRealm came old new = (realm : List ℕ) → realm_in (challenge_of new) ≡ Some realm
    → (realm_in (challenge_of old) ≡ Some realm) ⊎ ((bytes : List ℕ) × IsIn bytes came × (stun_wire.reported_realm bytes ≡ Some realm))

-- A client that has ended has no realm.
pub ended_realm : (came : List (List ℕ)) (old new : Protocol) → new.phase ≡ Ended → TakesRealm came old new
ended_realm came old new over realm is =
    let none : realm_in (challenge_of new) ≡ None = ap (λ (f : Phase). realm_in (challenge_in f new.auth.challenge)) over in
    absurd (Prim.cc (sym none ∙ is))

-- ---- what a message makes of the authenticator

module _ (old new : signers.Client) (bytes realm : List ℕ) where
  stays : new.challenge ≡ old.challenge → realm_in new.challenge ≡ Some realm → (realm_in old.challenge ≡ Some realm) ⊎ (stun_wire.reported_realm bytes ≡ Some realm)
  stays same is = inl (ap realm_in (sym same) ∙ is)

  by_verdict : (verdict : Result LongTermClientValidation LongTermClientAuthError) → IsJudged old bytes verdict new → realm_in new.challenge ≡ Some realm
      → (realm_in old.challenge ≡ Some realm) ⊎ (stun_wire.reported_realm bytes ≡ Some realm)
  by_verdict (Ok (ResendRequest choice)) r is =
      inr (ap (option_map (λ (t : ChallengeFields). t.realm)) r.visible ∙ (sym (ap (λ (c : signers.Client). realm_in c.challenge) r.stored) ∙ is))
  by_verdict (Ok (Validated algorithm)) v is = stays (ap (λ (c : signers.Client). c.challenge) v.stored) is
  by_verdict (Err Unauthorized) u is = stays (ap (λ (c : signers.Client). c.challenge) u.stored) is
  by_verdict (Err (IntegrityFailed algorithm)) f is = stays (ap (λ (c : signers.Client). c.challenge) f.stored) is
  by_verdict (Err UnsupportedFeature) u is = stays (ap (λ (c : signers.Client). c.challenge) u.unchanged) is
  by_verdict (Err NoMemory) w is = stays (ap (λ (c : signers.Client). c.challenge) w.unchanged) is

  in_phase : (phase : Phase) (verdict : Result LongTermClientValidation LongTermClientAuthError) → IsJudged old bytes verdict new → realm_in (challenge_in phase new.challenge) ≡ Some realm
      → (realm_in (challenge_in phase old.challenge) ≡ Some realm) ⊎ (stun_wire.reported_realm bytes ≡ Some realm)
  in_phase Initial verdict is h = by_verdict verdict is h
  in_phase (InitialSent numbers) verdict is h = by_verdict verdict is h
  in_phase (Authenticating numbers) verdict is h = by_verdict verdict is h
  in_phase Authenticated verdict is h = by_verdict verdict is h
  in_phase Ended verdict is h = absurd (Prim.cc h)

pub judged_realm : (p : Protocol) (bytes : List ℕ) (verdict : Result LongTermClientValidation LongTermClientAuthError) (signer : signers.Client) → IsJudged p.auth bytes verdict signer
    → TakesRealm (bytes ∷ []) p (judged signer p)
judged_realm p bytes verdict signer is realm h = elim (in_phase p.auth signer bytes realm p.phase verdict is h) [
  | inl was ↦ inl was
  | inr reported ↦ inr (bytes, inl refl, reported)
]
