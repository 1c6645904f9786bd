-- What the server's own requests make a client store stays within its limit.
use Rattle.std.proofs.Common.{◌≡◌, ◌⊎◌, ℕ, ◌<◌, ◌≤◌, Bool, true, false, List, [], ◌∷◌, ◌++◌, length, Option, Some, None, if◌then◌else◌, refl, sym, ap, ◌∙◌, subst, arith, inl, inr}
use Rattle.std.proofs.lemmas.Bool.{cases_Bool}
use Rattle.std.proofs.lemmas.Bool.Decides.{nat_tests}
use Rattle.std.proofs.lemmas.List.{length-append}
use Rattle.std.proofs.lemmas.List.Sums.{count_by-le-length, length-filter}
use Rattle.std.specs.List.{filter, find}
use Rattle.std.specs.Prelude.{nat_le}
use Rattle.std.specs.declared.net.socket_addr.SocketAddr.{SocketAddr}
use Rattle.turn_client_proto_timers.specs.StunTypesWire.Grammar.{number_at}
use Rattle.turn_client_proto_timers.specs.TurnRuns.Members.{IsIn}
use Rattle.turn_client_proto_timers.specs.Allocation.Changes.{change_first}
use Rattle.turn_client_proto_timers.specs.Allocation.declared.allocation.Allocation.{Allocation}
use Rattle.turn_client_proto_timers.specs.Allocation.declared.connection.Waiting.{Waiting}
use Rattle.turn_client_proto_timers.specs.Connection.Attempts.{attempt_by, attempted, is_joining, offered}
use Rattle.turn_client_proto_timers.specs.Connection.Reported.{waiting_for}
use Rattle.turn_client_proto_timers.specs.Messages.Answers.{answer_text}
use Rattle.turn_client_proto_timers.specs.Messages.declared.answer.AttemptAnswer.{AttemptAnswer}
use Rattle.turn_client_proto_timers.specs.Messages.declared.answer.AttemptAnswer.TheVariants.{AlreadyExists, BadRequest, Failed}
use Rattle.turn_client_proto_timers.specs.Messages.Reported.{connection_reported, peer_reported}
use Rattle.turn_client_proto_timers.specs.Core.Attempting.{IsAttemptTaken, IsIndicationTaken, after_attempt, after_attempt_in, after_attempt_of, after_offer, answering, is_at_limit, is_attempt, may_join, offers_limit, queued_answer, rejecting, takes_offer}
use Rattle.turn_client_proto_timers.specs.Core.declared.protocol.Protocol.{Protocol}
use Rattle.turn_client_proto_step_laws.specs.Bounds.{WaitAtMost, is_announced}
use Rattle.turn_client_proto_step_laws.proofs.Lists.{in_first}
use Rattle.turn_client_proto_step_laws.proofs.Offering.{offer_so}
use Rattle.turn_client_proto_step_laws.proofs.Polling.{by_test}

-- Of a list that is shorter than the limit, and one element more, at most that many pass.
room_for : {X : Type 0} (p : X → Bool) (xs : List X) (x : X) (limit : ℕ) → length xs < limit → length (filter p (xs ++ x ∷ [])) ≤ limit
room_for p xs x limit room =
    let most = count_by-le-length p (xs ++ x ∷ []) in
    let counted = length-filter p (xs ++ x ∷ []) in
    let longer = length-append xs (x ∷ []) in
    omega (arith, most, counted, longer, room)

one_more : {X : Type 0} (xs : List X) (x : X) (limit : ℕ) → length xs < limit → length (xs ++ x ∷ []) ≤ limit
one_more xs x limit room = let longer = length-append xs (x ∷ []) in omega (arith, longer, room)

below : (limit count : ℕ) → nat_le limit count ≡ false → count < limit
below limit count h = grind (arith, nat_tests)

not_at : (limit : Option ℕ) (most count : ℕ) → limit ≡ Some most → is_at_limit limit count ≡ false → count < most
unfolding is_at_limit
not_at limit most count is free = below most count (sym (ap (λ (l : Option ℕ). is_at_limit l count) is) ∙ free)

module _ (limit : ℕ) where
  -- The limit, the connections and the queue afterwards.
  pub record StaysWithin (old new : Protocol) : Type 0 where
    pub same : new.max_connection_attempts ≡ old.max_connection_attempts
    pub waits : WaitAtMost limit old.allocations → WaitAtMost limit new.allocations
    pub queued : length old.queue ≤ limit → length new.queue ≤ limit

  unchanged : (p : Protocol) → StaysWithin p p
  unchanged p = record { same = refl; waits = λ h. h; queued = λ h. h }

  module _ (p : Protocol) (is : p.max_connection_attempts ≡ Some limit) (number : ℕ) where
    answered : (answer : AttemptAnswer) → length p.queue < limit → StaysWithin p (answering answer number p)
    unfolding answering
    answered answer room = record {
      same = refl;
      waits = λ h. h;
      queued = λ _. one_more p.queue (queued_answer p.agent.here (answer_text p.auth answer number)) limit room;
    }

    rejected : (answer : AttemptAnswer) → StaysWithin p (rejecting answer number p)
    unfolding rejecting
    rejected answer = elim (cases_Bool (is_at_limit p.max_connection_attempts (length p.queue))) [
      | inl full ↦ rw full (unchanged p)
      | inr free ↦ rw free (answered answer (not_at p.max_connection_attempts limit (length p.queue) is free))
    ]

    begun : (connection : ℕ) (peer : SocketAddr) (a : Allocation) → find (may_join peer p) p.allocations ≡ Some a → length a.waiting < limit
        → StaysWithin p (record p { allocations = change_first (may_join peer p) (attempted connection peer number) p.allocations })
    begun connection peer a found room = record {
      same = refl;
      waits = λ before x listed. elim (in_first (may_join peer p) (attempted connection peer number) x p.allocations listed) [
        | inl was ↦ before x was
        | inr changed ↦
            let own : a ≡ changed.0 = Prim.cc (sym found ∙ changed.1) in
            let room_there : length changed.0.waiting < limit = subst (λ (y : Allocation). length y.waiting < limit) own room in
            subst (λ (y : Allocation). length (filter is_announced y.waiting) ≤ limit) (sym changed.2)
            (room_for is_announced changed.0.waiting (attempt_by connection peer number) limit room_there)
      ];
      queued = λ h. h;
    }

    taken_in : (o : Option Allocation) (connection : ℕ) (peer : SocketAddr) → find (may_join peer p) p.allocations ≡ o → StaysWithin p (after_attempt_in o connection peer number p)
    taken_in None connection peer found = rejected BadRequest
    taken_in (Some a) connection peer found = elim (cases_Bool (is_joining peer a)) [
      | inl joins ↦ rw joins (rejected AlreadyExists)
      | inr new ↦ elim (cases_Bool (is_at_limit p.max_connection_attempts (length a.waiting))) [
        | inl full ↦ rw (new, full) (rejected Failed)
        | inr free ↦ rw (new, free) (begun connection peer a found (not_at p.max_connection_attempts limit (length a.waiting) is free))
      ]
    ]

    taken_of : (connection : Option ℕ) (peer : Option SocketAddr) → StaysWithin p (after_attempt_of connection peer number p)
    taken_of (Some connection) (Some peer) = taken_in (find (may_join peer p) p.allocations) connection peer refl
    taken_of (Some connection) None = rejected BadRequest
    taken_of None peer = rejected BadRequest

  pub attempt_within : (old new : Protocol) (bytes : List ℕ) (handled : Bool) → old.max_connection_attempts ≡ Some limit → IsAttemptTaken old bytes handled new → StaysWithin old new
  attempt_within old new bytes handled is taken =
      by_test (is_attempt bytes)
      (λ (_ : is_attempt bytes ≡ true) (o : (handled ≡ true) × (new ≡ after_attempt bytes old)).
      subst (λ (q : Protocol). StaysWithin old q) (sym o.1) (taken_of old is (number_at bytes) (connection_reported bytes) (peer_reported bytes)))
      (λ (_ : is_attempt bytes ≡ false) (o : (handled ≡ false) × (new ≡ old)). subst (λ (q : Protocol). StaysWithin old q) (sym o.1) (unchanged old)) taken

-- ---- indications

-- What an indication leaves: all but the allocations is as before, and one that changed has at most as many
-- connections that wait as are allowed.
pub record StaysSmall (old new : Protocol) : Type 0 where
  pub others : new ≡ record old { allocations = new.allocations }
  pub each : (a : Allocation) → IsIn a new.allocations → IsIn a old.allocations ⊎ (length a.waiting ≤ offers_limit old.max_connection_attempts)

all_before : (p : Protocol) → StaysSmall p p
all_before p = record { others = refl; each = λ a listed. inl listed }

pub offer_within : (old new : Protocol) (bytes : List ℕ) (handled : Bool) → IsIndicationTaken old bytes handled new → StaysSmall old new
offer_within old new bytes handled taken =
    let most : ℕ = offers_limit old.max_connection_attempts in
    by_test (takes_offer old bytes)
    (λ (_ : takes_offer old bytes ≡ true) (o : (handled ≡ true) × (new ≡ after_offer bytes old)).
    subst (λ (q : Protocol). StaysSmall old q) (sym o.1) (offer_so bytes old (λ q. StaysSmall old q) (all_before old)
    (λ connection peer a reported named found room. record {
      others = refl;
      each = λ x listed. elim (in_first (may_join peer old) (offered connection peer) x old.allocations listed) [
        | inl was ↦ inl was
        | inr changed ↦
            let own : a ≡ changed.0 = Prim.cc (sym found ∙ changed.1) in
            let there : length changed.0.waiting < most = subst (λ (y : Allocation). length y.waiting < most) own (below most (length a.waiting) room) in
            inr (subst (λ (y : Allocation). length y.waiting ≤ most) (sym changed.2) (one_more changed.0.waiting (waiting_for connection peer) most there))
      ];
    })))
    (λ (_ : takes_offer old bytes ≡ false) (o : (handled ≡ false) × (new ≡ old)). subst (λ (q : Protocol). StaysSmall old q) (sym o.1) (all_before old)) taken
