-- Messages that change nothing at a client that awaits the response to its first request.
use Rattle.std.proofs.Common.{◌≡◌, ◌≢◌, ℕ, Bool, true, false, List, [], ◌∷◌, Option, Some, None, refl, sym, ap, ◌∙◌, subst, ◌⊎◌, inl, inr}
use Rattle.std.specs.Prelude.{◌&&◌, not, is_some, Result, Ok, Err}
use Rattle.std.specs.Bool.{MatchBool}
use Rattle.std.specs.FinMap as map
use Rattle.std.proofs.lemmas.Bool.{and_left, and_right}
use Rattle.turn_desk_core.specs.StunTypesWire.Attributes.{kind_at}
use Rattle.turn_desk_core.specs.StunTypesWire.Grammar.{number_at}
use Rattle.turn_desk_core.specs.StunTypesWire.Types.{class_of}
use Rattle.turn_desk_core.specs.StunTypesWire.declared.algorithm.IntegrityAlgorithm.{IntegrityAlgorithm}
use Rattle.turn_client_proto_api.specs.StunProtoAgent.Handling.{is_awaited, is_response}
use Rattle.turn_client_proto_messages.specs.Judging.{IsJudged, signer_of}
use Rattle.turn_client_proto_messages.specs.StunProtoClient.Client as auth
use Rattle.turn_client_proto_messages.specs.StunProtoClient.ClientValidation.{IsAnswerable, IsForged, IsResent, IsUnauthorized, IsUnsupported, IsValidated, going_by}
use Rattle.turn_client_proto_messages.specs.StunProtoClient.declared.error.LongTermClientAuthError.{LongTermClientAuthError}
use Rattle.turn_client_proto_messages.specs.StunProtoClient.declared.error.LongTermClientAuthError.TheVariants.{Unauthorized, IntegrityFailed, UnsupportedFeature, NoMemory}
use Rattle.turn_client_proto_messages.specs.StunProtoClient.declared.validation.LongTermClientValidation.{LongTermClientValidation}
use Rattle.turn_client_proto_messages.specs.StunProtoClient.declared.validation.LongTermClientValidation.TheVariants.{ResendRequest, Validated}
use Rattle.turn_client_proto_handshake_laws.specs.Core.Authenticating.{IsFirstJudged, IsUnauthenticated, ends_unsigned}
use Rattle.turn_client_proto_handshake_laws.specs.Core.Ending.{ended}
use Rattle.turn_client_proto_handshake_laws.specs.Core.Outcomes.{IsHandled, IsIgnored}
use Rattle.turn_client_proto_handshake_laws.specs.Core.Receiving.{IsFollowed, IsFollowedIf, IsProcessed, IsProcessedIn, is_unawaited}
use Rattle.turn_client_proto_handshake_laws.specs.Core.Responding.{answered, judged}
use Rattle.turn_client_proto_handshake_laws.specs.Core.declared.protocol.Phase.{Phase}
use Rattle.turn_client_proto_handshake_laws.specs.Core.declared.protocol.Phase.TheVariants.{Initial, InitialSent}
use Rattle.turn_client_proto_handshake_laws.specs.Choosing.{IsAnsweredBy}
use Rattle.turn_client_proto_handshake_laws.specs.Sent.{Beginning, Begins, first_number}
use Rattle.turn_client_proto_handshake_laws.specs.Stages.{IsAsking}
use Rattle.turn_client_proto_handshake_laws.proofs.Only.{none_found, where_false, where_true}
use Rattle.turn_client_proto_step_laws.specs.Recv.ClientState.{Protocol}
use Rattle.turn_desk_progress_laws.specs.Scripts.{Plan}
use Rattle.turn_desk_progress_laws.proofs.Ignoring.{unawaited}
use Rattle.turn_desk_laws.specs.Unanswered.{IsNoResponse, IsWithoutEffect, OtherClass, OtherNumber}

-- A message comes to a new client.
pub new_ignores : (b : Beginning) (p : Protocol) (bytes : List ℕ) (now : ℕ) (handled : Bool) (q : Protocol) → Begins b p → IsProcessed p bytes now handled q → q ≡ p
new_ignores b p bytes now handled q is processed =
    by (is_unawaited p bytes) (subst (λ (f : Phase). MatchBool (is_unawaited p bytes) (IsIgnored p handled q) (IsProcessedIn f p bytes now handled q)) is.phase processed)
  where
    by : (x : Bool) → MatchBool x (IsIgnored p handled q) (IsIgnored p handled q) → q ≡ p
    by true ignored = ignored.1
    by false ignored = ignored.1

module _ (plan : Plan) (many last : ℕ) (p : Protocol) (w : IsAsking plan.client many last p) (bytes : List ℕ) (now : ℕ) (handled : Bool) (q : Protocol) where
  -- A response that the client doesn't ignore at once.
  abbrev Judges : Type 0
  Judges = IsFollowedIf (is_response bytes) IsFirstJudged p bytes now handled q

  judges : is_unawaited p bytes ≡ false → IsProcessed p bytes now handled q → Judges
  judges so is = subst (λ (f : Phase). IsProcessedIn f p bytes now handled q) w.phase (where_false (IsIgnored p handled q) (IsProcessedIn p.phase p bytes now handled q) (is_unawaited p bytes) so is)

  -- It is no response.
  other_class : is_response bytes ≡ false → IsProcessed p bytes now handled q → q ≡ p
  unfolding is_unawaited
  other_class none is =
      let so : (p.auth.hardened && (is_response bytes && not (is_awaited p.agent bytes))) ≡ false =
      and_right p.auth.hardened (is_response bytes && not (is_awaited p.agent bytes)) (and_left (is_response bytes) (not (is_awaited p.agent bytes)) none) in
      (where_false (IsFollowed IsFirstJudged p bytes now handled q) (IsIgnored p handled q) (is_response bytes) none (judges so is)).1

  module _ (other : number_at bytes ≢ first_number plan.client) where
    none_awaited : map.get p.agent.outstanding (number_at bytes) ≡ None
    none_awaited = none_found p.agent.outstanding (number_at bytes) (λ t there. other (w.requested.only (number_at bytes) t there))

    not_awaited : is_awaited p.agent bytes ≡ false
    not_awaited = ap is_some none_awaited

    -- The authenticator stays as it was.
    same_judged : (a : auth.Client) → a ≡ p.auth → judged a p ≡ p
    same_judged a same = ap (λ (x : auth.Client). judged x p) same

    ignored_by : (a : auth.Client) → a ≡ p.auth → IsIgnored (judged a p) handled q → q ≡ p
    ignored_by a same is = is.1 ∙ same_judged a same

    unended : (a : auth.Client) → a ≡ p.auth → IsUnauthenticated (judged a p) bytes handled q → q ≡ p
    unended a same is =
        ignored_by a same (where_false (IsHandled (ended (answered bytes (judged a p))) handled q) (IsIgnored (judged a p) handled q) (is_awaited p.agent bytes && ends_unsigned (judged a p) bytes)
        (and_left (is_awaited p.agent bytes) (ends_unsigned (judged a p) bytes) not_awaited) is)

    -- No algorithm was recorded, so none is forgotten.
    forgets_none : (a : auth.Client) → a ≡ going_by p.auth None → a ≡ p.auth
    forgets_none a is = is ∙ ap (λ (x : auth.Client). going_by x None) w.auth ∙ sym w.auth

    -- No challenge is stored.
    none_stored : {A : Type 0} (standing : auth.Standing) → auth.standing_of p.auth ≡ Some standing → A
    none_stored standing is = absurd (Prim.cc (sym (ap auth.standing_of w.auth) ∙ is))

    module _ (quiet : IsWithoutEffect plan.client.config bytes) where
      by_verdict : plan.client.config.hardened ≡ false → (verdict : Result LongTermClientValidation LongTermClientAuthError) (a : auth.Client) → IsJudged p.auth bytes verdict a → IsFirstJudged verdict (judged a p) bytes now handled q → q ≡ p
      by_verdict soft (Ok (ResendRequest choice)) a is outcome = elim quiet [
        | inl hard ↦ absurd (Prim.cc (sym soft ∙ hard))
        | inr none ↦ (let r : IsResent p.auth bytes choice a = is in
            absurd (none r.reported choice r.visible (subst (λ (x : auth.Client). IsAnswerable x r.reported choice) w.auth r.answerable)))
      ]
      by_verdict soft (Ok (Validated algorithm)) a is outcome = let r : IsValidated p.auth bytes algorithm a = is in none_stored r.standing r.occurs
      by_verdict soft (Err Unauthorized) a is outcome = let r : IsUnauthorized p.auth bytes a = is in unended a (forgets_none a r.stored) outcome
      by_verdict soft (Err (IntegrityFailed algorithm)) a is outcome = let r : IsForged p.auth bytes algorithm a = is in none_stored r.standing r.occurs
      by_verdict soft (Err UnsupportedFeature) a is outcome = let r : IsUnsupported p.auth bytes a = is in unended a r.unchanged outcome
      by_verdict soft (Err NoMemory) a is outcome = absurd outcome

      soft_judges : plan.client.config.hardened ≡ false → IsProcessed p bytes now handled q → Judges
      unfolding is_unawaited
      soft_judges soft is =
          judges (ap (λ (x : Bool). x && (is_response bytes && not (is_awaited p.agent bytes))) (ap (λ (x : auth.Client). x.hardened) w.auth ∙ soft)) is

      soft_ignores : plan.client.config.hardened ≡ false → is_response bytes ≡ true → IsProcessed p bytes now handled q → q ≡ p
      soft_ignores soft response is =
          let f = where_true (IsFollowed IsFirstJudged p bytes now handled q) (IsIgnored p handled q) (is_response bytes) response (soft_judges soft is) in
          by_verdict soft f.verdict f.auth f.is_judged f.outcome

      responds : is_response bytes ≡ true → IsProcessed p bytes now handled q → q ≡ p
      responds response is = by plan.client.config.hardened refl
        where
          by : (x : Bool) → plan.client.config.hardened ≡ x → q ≡ p
          by true hard = unawaited p bytes now handled q (ap (λ (x : auth.Client). x.hardened) w.auth ∙ hard) response none_awaited is
          by false soft = soft_ignores soft response is

      -- It is a response to another request.
      other_number : IsProcessed p bytes now handled q → q ≡ p
      other_number is = by (is_response bytes) refl
        where
          by : (x : Bool) → is_response bytes ≡ x → q ≡ p
          by true response = responds response is
          by false none = other_class none is

  -- A message that doesn't answer the request changes nothing.
  pub asking_ignores : IsNoResponse plan bytes → IsProcessed p bytes now handled q → q ≡ p
  asking_ignores (OtherClass none) is = other_class none is
  asking_ignores (OtherNumber other quiet) is = other_number other quiet is
