use Rattle.std.proofs.Common.{◌≡◌, ℕ, Bool, true, List, subst, ◌⊎◌, inl, inr}
use Rattle.turn_client_proto_api.specs.StunTypesWire.declared.algorithm.IntegrityAlgorithm.{IntegrityAlgorithm}
use Rattle.turn_client_proto_messages.specs.StunProtoClient.Challenges.{ChallengeFields}
use Rattle.turn_client_proto_core.specs.declared.protocol.Protocol.{Protocol}
use Rattle.turn_client_proto_handshake_laws.specs.Choosing.{IsAnsweredBy, IsChallenge}
use Rattle.turn_client_proto_handshake_laws.specs.Stages.{HasChosen, IsAsking}
use Rattle.turn_client_proto_handshake_laws.proofs.Challenged.{HasAnswered, IsOver, challenge_processed, chooses, is_over, none_barred, one_choice}
use Rattle.turn_client_proto_handshake_laws.proofs.Request.{signed_listed}
use Rattle.turn_client_proto_handshake_laws.proofs.stages.challenges_are_answered.Goals as goal
use Rattle.turn_client_proto_handshake_laws.specs.Sent.{Beginning, HasRoom}

-- If the challenge can be answered, it was answered by that algorithm.
chosen : (c : goal.After-proof_texts_stay_short) (b : Beginning) (many last : ℕ) (old new : Protocol) (reported : ChallengeFields) (bytes : List ℕ) (now : ℕ) (handled : Bool) (algorithm : IntegrityAlgorithm)
    → HasRoom b.config → (w : IsAsking b many last old) → (is : IsChallenge b reported bytes) → IsAnsweredBy b.config reported algorithm
    → HasAnswered b many last old w reported bytes is now handled new ⊎ IsOver b many last old w reported bytes is now handled new
    → (handled ≡ true) × (number : ℕ) × HasChosen b (record { reported = reported; algorithm = algorithm; number = number; made = now }) 1 last new
chosen c b many last old new reported bytes now handled algorithm room w is by (inr over) = none_barred b.config reported algorithm by over.barring
chosen c b many last old new reported bytes now handled algorithm room w is by (inl h) = (
  h.is_handled,
  h.number,
  subst (λ (a : IntegrityAlgorithm). HasChosen b (record { reported = reported; algorithm = a; number = h.number; made = now }) 1 last new)
      (one_choice b.config reported h.algorithm algorithm h.answered_by by)
      (chooses b many last old w reported bytes is now handled new h
      (λ choice. signed_listed b room c.proof_texts_stay_short.ensures.fresh (record { reported = reported; algorithm = h.algorithm; number = h.number; made = now }) choice c.proof_texts_stay_short.ensures.stay c.proof_requests_are_read.ensures.number)),
)

pub returns-clause-answered : goal.returns-clause-answered
returns-clause-answered c = λ b many last old new reported bytes now handled algorithm room w is by processed.
    chosen c b many last old new reported bytes now handled algorithm room w is by (challenge_processed b many last old w reported bytes is now handled new processed)

pub returns-clause-barred : goal.returns-clause-barred
returns-clause-barred c = λ b many last old new reported bytes now handled w is barring processed.
    elim (challenge_processed b many last old w reported bytes is now handled new processed) [
      | inl h ↦ none_barred b.config reported h.algorithm h.answered_by barring
      | inr over ↦ (over.is_handled, is_over b many last old w reported bytes is now handled new over)
    ]

pub returns-clause-either : goal.returns-clause-either
returns-clause-either c = λ b many last old new reported bytes now handled w is processed.
    elim (challenge_processed b many last old w reported bytes is now handled new processed) [
      | inl h ↦ inl (h.algorithm, h.answered_by)
      | inr over ↦ inr over.barring
    ]

pub returns-clause-apart : goal.returns-clause-apart
returns-clause-apart c = λ b reported algorithm by barring. none_barred b.config reported algorithm by barring

pub returns-clause-one : goal.returns-clause-one
returns-clause-one c = λ b reported algorithm other first second. one_choice b.config reported algorithm other first second
