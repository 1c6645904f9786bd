-- The transaction ID of a client's second request, by its generator.
use Rattle.std.proofs.Common.{◌≡◌, ℕ, zero, suc, ◌<◌, ◌++◌, arith, Bool, true, false, List, [], ◌∷◌, Option, Some, None, refl, sym, ap, ◌∙◌, subst}
use Rattle.std.specs.Prelude.{◌==◌, ◌||◌, is_some, find, if◌then◌else◌}
use Rattle.std.specs.Bool.{MatchBool}
use Rattle.std.specs.FinMap as map
use Rattle.std.proofs.lemmas.Bool.{eq-eqb, eqb-true, ne_eqb}
use Rattle.turn_client_proto_messages.specs.StunProtoClient.Client as auth
use Rattle.turn_client_proto_api.specs.StunProtoAgent.State as agents
use Rattle.turn_client_proto_messages.specs.StunProtoTransaction.Agents.{Transaction}
use Rattle.turn_client_proto_messages.specs.Allocation.declared.allocation.Allocation.{Allocation}
use Rattle.turn_client_proto_messages.specs.Allocation.Listed.{is_any_awaited}
use Rattle.turn_client_proto_messages.specs.Waiting.{Queued, is_answer}
use Rattle.turn_client_proto_api.specs.Sent.{Sent}
use Rattle.turn_client_proto_handshake_laws.specs.Core.Asking.{requested}
use Rattle.turn_client_proto_handshake_laws.specs.Core.Authenticating.{allocates_again, numbers_sent}
use Rattle.turn_client_proto_handshake_laws.specs.Core.Numbering.{IsNextNumber, after_draw, awaits, following, generated, is_taken}
use Rattle.turn_client_proto_handshake_laws.specs.Core.Responding.{challenged, judged}
use Rattle.turn_client_proto_handshake_laws.specs.Core.declared.protocol.Phase.{Phase}
use Rattle.turn_client_proto_handshake_laws.specs.Core.declared.protocol.Phase.TheVariants.{InitialSent, Authenticating}
use Rattle.turn_client_proto_step_laws.specs.Recv.Control.{Control}
use Rattle.turn_client_proto_step_laws.specs.Recv.ClientState.{ClientState, Protocol}
use Rattle.turn_client_proto_step_laws.specs.Timers.Drawing.{Again, Fresh, IsAnswerSent, IsFirstSent, IsNextSent, IsStarted, IsTransmitted, after_sending, first_allocated, is_resting, sent_at_once}
use Rattle.turn_client_proto_step_laws.specs.Timers.Polling.{pace_of}
use Rattle.turn_client_proto_handshake_laws.specs.Sent.{Beginning, Begins, first_number}
use Rattle.turn_client_proto_handshake_laws.specs.Stages.{IsAsking}
use Rattle.turn_client_proto_handshake_laws.proofs.First.{none_there, sends_one}
use Rattle.turn_client_proto_handshake_laws.proofs.Only.{clash}
use Rattle.turn_desk_event.specs.declared.answer.Answer.{Answer}
use Rattle.turn_desk_world_laws.specs.World.Model.{World}
use Rattle.turn_desk_progress_laws.specs.Forged.{IsNumbered, after_first, second_number}
use Rattle.turn_desk_progress_laws.specs.Scripts.{Barred, Came, Challenged, Done, Granted, Plan, Progress, Requested, Signed, Silent, Start}
use Rattle.turn_desk_progress_laws.specs.Promises.{over}
use Rattle.turn_desk_progress_laws.proofs.Clients.{Rests}

-- ---- the generator after the first request

pub first_draws : (b : Beginning) (p : Protocol) → Begins b p → (sent : Option Sent) (q : Protocol) → IsTransmitted p b.made sent q → q.rng ≡ after_first b
unfolding first_allocated sent_at_once
first_draws b p is sent q (Again one e r) = none_there b p is r.number r.transaction r.least.present
first_draws b p is sent q (Fresh none fresh) =
    let awake = subst (λ (l : Option ℕ). MatchBool (is_resting (pace_of p) l b.made) (IsAnswerSent (find is_answer p.queue) p sent q) (IsNextSent p.queue p b.made sent q)) is.last_send fresh in
    let empty = subst (λ (l : List Queued). IsNextSent l p b.made sent q) is.queue awake in
    let begins = subst (λ (f : Phase). IsStarted f p b.made sent q) is.phase empty in
    let one = sends_one sent (λ (s : Sent). IsFirstSent p b.made s q) begins in
    let after : q ≡ after_sending b.made (first_allocated one.2.number b.made p) = one.2.after in
    ap (λ (x : Protocol). x.rng) after ∙ ap after_draw is.rng

-- ---- the second number

apart : (from : ℕ) → following from 0 ≡ following from 1 → ⊥
apart from same = omega (arith, same)

of_both : (x : Bool) → ((x || false) || false) ≡ true → x ≡ true
of_both true is = refl
of_both false is = absurd (Prim.cc is)

module _ (b : Beginning) (many last : ℕ) (p : Protocol) (w : IsAsking b many last p) (rng : p.rng ≡ after_first b) (a : auth.Client) (number : ℕ) (next : IsNextNumber (judged a p) number) where
  abbrev from : ℕ
  from = generated (after_first b)

  -- Only the transaction ID of the first request is in use.
  first_taken : (n : ℕ) → n ≡ first_number b → is_taken (judged a p) n ≡ true
  unfolding is_taken
  first_taken n same =
      ap (λ (x : Bool). x || (awaits n p.phase || is_any_awaited n p.allocations)) (ap (λ (k : ℕ). is_some (map.get p.agent.outstanding k)) same ∙ ap is_some w.requested.there)

  awaited_first : (n : ℕ) → (awaits n p.phase || is_any_awaited n p.allocations) ≡ true → n ≡ first_number b
  unfolding awaits
  awaited_first n is =
      let shown : (awaits n p.phase || is_any_awaited n p.allocations) ≡ (((first_number b == n) || false) || false) = ap (λ (f : Phase). awaits n f || is_any_awaited n p.allocations) w.phase ∙ ap (λ (l : List Allocation). awaits n (InitialSent (first_number b ∷ [])) || is_any_awaited n l) w.allocations in
      sym (eqb-true (first_number b) n (of_both (first_number b == n) (sym shown ∙ is)))

  taken_first : (n : ℕ) → is_taken (judged a p) n ≡ true → n ≡ first_number b
  unfolding is_taken
  taken_first n taken = by (map.get p.agent.outstanding n) refl taken
    where
      by : (o : Option Transaction) → map.get p.agent.outstanding n ≡ o → (is_some o || (awaits n p.phase || is_any_awaited n p.allocations)) ≡ true → n ≡ first_number b
      by (Some t) there is = w.requested.only n t there
      by None there is = awaited_first n is

  passed : (k : ℕ) → k < next.steps → following from k ≡ first_number b
  passed k less = taken_first (following from k) (ap (λ (g : ℕ). is_taken (judged a p) (following g k)) (sym (ap generated rng)) ∙ next.passed k less)

  is_new : number ≡ first_number b → ⊥
  is_new same = clash (is_taken (judged a p) number) (first_taken number same) next.free

  by_steps : (steps : ℕ) → number ≡ following from steps → ((k : ℕ) → k < steps → following from k ≡ first_number b) → number ≡ second_number b
  by_steps zero is before =
      is ∙ sym (ap (λ (x : Bool). if x then following from 1 else following from 0) (ne_eqb (following from 0) (first_number b) (λ same. is_new (is ∙ same))))
  by_steps (suc zero) is before =
      is ∙ sym (ap (λ (x : Bool). if x then following from 1 else following from 0) (eq-eqb (following from 0) (first_number b) (before 0 (omega arith))))
  by_steps (suc (suc more)) is before = absurd (apart from (before 0 (omega arith) ∙ sym (before 1 (omega arith))))

  pub number_is : number ≡ second_number b
  number_is = by_steps next.steps (next.is ∙ ap (λ (g : ℕ). following g next.steps) (ap generated rng)) passed

abbrev second_in : ℕ → List ℕ → ℕ
second_in other (first ∷ second ∷ numbers) = second
second_in other _ = other

-- The second transaction ID of a phase, if it has two.
abbrev second_of : ℕ → Phase → ℕ
second_of other (Authenticating numbers) = second_in other numbers
second_of other _ = other

abbrev core_of : Protocol → Option ClientState → Protocol
core_of other None = other
core_of other (Some k) = k.core

-- The phase of a client that has answered a challenge.
pub answered_phase : (b : Beginning) (p : Protocol) → p.phase ≡ InitialSent (first_number b ∷ []) → (bytes : List ℕ) (number now : ℕ) (a : auth.Client) (q : Protocol) → q ≡ challenged bytes (allocates_again number now (judged a p))
    → q.phase ≡ Authenticating (first_number b ∷ number ∷ [])
unfolding challenged allocates_again requested
answered_phase b p phase bytes number now a q after =
    ap (λ (x : Protocol). x.phase) after ∙ ap (λ (f : Phase). Authenticating (numbers_sent f ++ number ∷ [])) phase

pub same_number : (b : Beginning) (one other : ℕ) (f : Phase) → f ≡ Authenticating (first_number b ∷ one ∷ []) → f ≡ Authenticating (first_number b ∷ other ∷ []) → one ≡ other
same_number b one other f first second = ap (second_of one) (sym first ∙ second)

-- Two names of one client's core.
pub same_core : (c : Control) (one other : Protocol) (o : Option ClientState) → o ≡ Some (over c one) → o ≡ Some (over c other) → one ≡ other
same_core c one other o first second = ap (core_of one) (sym first ∙ second)

-- ---- what is known of it at a position

-- Only a request with the second transaction ID is outstanding.
abbrev pub IsSecondAlone : Beginning → Protocol → Type 0
IsSecondAlone b p = (n : ℕ) (t : Transaction) → map.get p.agent.outstanding n ≡ Some t → n ≡ second_number b

-- Until the challenge is answered, the generator is that after the first request. Then the second request has the
-- second transaction ID.
abbrev pub Own : Plan → Progress → Protocol → Type 0
Own plan Start p = Unit {0}
Own plan (Requested request) p = p.rng ≡ after_first plan.client
Own plan (Challenged request reply head) p = p.rng ≡ after_first plan.client
Own plan Came p = IsSecondAlone plan.client p
Own plan (Signed request) p = IsNumbered plan (Signed request) × IsSecondAlone plan.client p
Own plan (Granted request address lifetime reply head) p = IsNumbered plan (Granted request address lifetime reply head) × IsSecondAlone plan.client p
Own plan (Done request address lifetime reply) p = IsNumbered plan (Done request address lifetime reply)
Own plan Barred p = Unit {0}
Own plan Silent p = Unit {0}

abbrev pub Owns : Plan → Progress → World → Type 0
Owns plan progress w = (k : ClientState) → w.client ≡ Some k → Own plan progress k.core

pub owns_so : (plan : Plan) (progress : Progress) (v : World) (k : ClientState) → v.client ≡ Some k → Own plan progress k.core → Owns plan progress v
owns_so plan progress v k there own = λ other at.
    let same : k ≡ other = Prim.cc (sym there ∙ at) in
    subst (λ (x : ClientState). Own plan progress x.core) same own

pub owns_rests : (plan : Plan) (progress : Progress) (w v : World) (ret : Answer) → Rests ret w v → Owns plan progress w → Owns plan progress v
owns_rests plan progress w v ret r own = subst (λ (x : World). Owns plan progress x) (sym r.same) own

-- Nothing changes that but the generator and the outstanding requests.
pub own_moved : (plan : Plan) (progress : Progress) (p q : Protocol) → q.rng ≡ p.rng → q.agent ≡ p.agent → Own plan progress p → Own plan progress q
own_moved plan Start p q rng agent own = tt
own_moved plan (Requested request) p q rng agent own = rng ∙ own
own_moved plan (Challenged request reply head) p q rng agent own = rng ∙ own
own_moved plan Came p q rng agent own = λ n t there. own n t (ap (λ (a : agents.Agent). map.get a.outstanding n) (sym agent) ∙ there)
own_moved plan (Signed request) p q rng agent own = (own.0, λ n t there. own.1 n t (ap (λ (a : agents.Agent). map.get a.outstanding n) (sym agent) ∙ there))
own_moved plan (Granted request address lifetime reply head) p q rng agent own = (own.0, λ n t there. own.1 n t (ap (λ (a : agents.Agent). map.get a.outstanding n) (sym agent) ∙ there))
own_moved plan (Done request address lifetime reply) p q rng agent own = own
own_moved plan Barred p q rng agent own = tt
own_moved plan Silent p q rng agent own = tt
