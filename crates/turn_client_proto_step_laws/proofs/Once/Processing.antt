-- The client after a received message is determined.
use Rattle.std.proofs.Common.{◌≢◌, ℕ, Bool, ◌&&◌, List, subst}
use Rattle.turn_client_proto_timers.specs.StunTypesWire.Attributes.{kind_at}
use Rattle.turn_client_proto_timers.specs.StunTypesWire.Grammar.{number_at}
use Rattle.turn_client_proto_timers.specs.StunTypesWire.Types.{class_of}
use Rattle.turn_client_proto_recv.specs.StunProtoClient.Client.{Client}
use Rattle.turn_client_proto_timers.specs.StunProtoAgent.Handling.{is_response}
use Rattle.turn_client_proto_timers.specs.Allocation.Awaited.{has_number}
use Rattle.turn_client_proto_timers.specs.Core.Attempting.{after_offer, takes_offer}
use Rattle.turn_client_proto_timers.specs.Core.Authenticating.{IsFirstJudged, IsSignedJudged}
use Rattle.turn_client_proto_timers.specs.Core.Receiving.{Follows, IsFollowed, IsProcessed, IsProcessedIn, is_unawaited}
use Rattle.turn_client_proto_timers.specs.TurnRuns.Indications.{is_indication}
use Rattle.turn_client_proto_timers.specs.Core.Responding.{judged}
use Rattle.turn_client_proto_timers.specs.Core.Standing.{IsJudgedStanding}
use Rattle.turn_client_proto_timers.specs.Core.declared.protocol.Phase.{Phase}
use Rattle.turn_client_proto_timers.specs.Core.declared.protocol.Phase.TheVariants.{Initial, InitialSent, Authenticating, Authenticated, Ended}
use Rattle.turn_client_proto_timers.specs.Core.declared.protocol.Protocol.{Protocol}
use Rattle.turn_client_proto_step_laws.proofs.Once.Allocating.{first_definite, signed_definite}
use Rattle.turn_client_proto_step_laws.proofs.Once.Outcomes.{IsDefinite, handled, ignored, tested}
use Rattle.turn_client_proto_step_laws.proofs.Once.Judging.{Verdict, judged_same, no_memory}
use Rattle.turn_client_proto_step_laws.proofs.Once.Standing.{standing_definite}

module _ (old : Protocol) (bytes : List ℕ) (now : ℕ) where
  -- The relation has no outcome in which memory runs out.
  abbrev IsAmple : Follows → Type 0
  IsAmple follows = (p : Protocol) (handled : Bool) (new : Protocol) → follows no_memory p bytes now handled new → ⊥

  abbrev EachDefinite : Follows → Type 0
  EachDefinite follows = (verdict : Verdict) (p : Protocol) → IsDefinite (follows verdict p bytes now)

  followed_definite : (follows : Follows) → IsAmple follows → EachDefinite follows → IsDefinite (IsFollowed follows old bytes now)
  followed_definite follows ample definite = record {
    same = λ handled again one other a b.
        let enough : a.verdict ≢ no_memory = λ is. ample (judged a.auth old) handled one (subst (λ (v : Verdict). follows v (judged a.auth old) bytes now handled one) is a.outcome) in
        let plenty : b.verdict ≢ no_memory = λ is. ample (judged b.auth old) again other (subst (λ (v : Verdict). follows v (judged b.auth old) bytes now again other) is b.outcome) in
        let same = judged_same old.auth bytes a.auth b.auth a.verdict b.verdict enough plenty a.is_judged b.is_judged in
        let by_auth = subst (λ (c : Client). follows a.verdict (judged c old) bytes now handled one) same.1 a.outcome in
        let by_both = subst (λ (v : Verdict). follows v (judged b.auth old) bytes now handled one) same.0 by_auth in
        (definite b.verdict (judged b.auth old)).same handled again one other by_both b.outcome;
  }

  processed_in : (phase : Phase) → IsDefinite (IsProcessedIn phase old bytes now)
  processed_in Initial = ignored old
  processed_in (InitialSent numbers) =
      tested (is_response bytes) (followed_definite IsFirstJudged (λ p handled new is. is) (first_definite bytes now)) (ignored old)
  processed_in (Authenticating numbers) =
      tested (is_response bytes && has_number (number_at bytes) numbers) (followed_definite IsSignedJudged (λ p handled new is. is) (signed_definite bytes now)) (ignored old)
  processed_in Authenticated =
      tested (is_indication (class_of (kind_at bytes))) (tested (takes_offer old bytes) (handled (after_offer bytes old)) (ignored old)) (followed_definite IsJudgedStanding (λ p handled new is. is) (standing_definite bytes now))
  processed_in Ended = ignored old

  pub processed_definite : IsDefinite (IsProcessed old bytes now)
  processed_definite = tested (is_unawaited old bytes) (ignored old) (processed_in old.phase)
