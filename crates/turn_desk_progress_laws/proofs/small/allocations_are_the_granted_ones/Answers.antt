use Rattle.std.proofs.Common.{◌≡◌, ◌++◌, ◌≤◌, ℕ, arith, List, [], ◌∷◌, drop, length, ap, sym, ◌∙◌, refl}
use Rattle.turn_client_proto_messages.specs.Allocation.Listed.{relayed_listed}
use Rattle.turn_client_proto_step_laws.specs.Recv.ClientState.{Protocol}
use Rattle.turn_client_proto_api.specs.declared.event.TurnEvent.{TurnEvent}
use Rattle.turn_desk_core.specs.declared.grant.Grant.{Grant}
use Rattle.turn_desk_progress_laws.specs.Promises.{control_at}
use Rattle.turn_desk_progress_laws.proofs.SecondNumbers.{same_core}
use Rattle.turn_desk_progress_laws.proofs.small.allocations_are_the_granted_ones.Goals as goal

tail : List Grant → List Grant
tail [] = []
tail (g ∷ list) = list

-- A list isn't itself with one more member.
grows : (list : List Grant) (g : Grant) → list ≡ list ++ g ∷ [] → ⊥
unfolding tail
grows [] g same = Prim.cc same
grows (one ∷ list) g same = grows list g (ap tail same)

-- Two events are more than one.
one_event : (reported left : List TurnEvent) (event : TurnEvent) → 2 ≤ length reported → reported ++ left ≡ event ∷ [] → ⊥
one_event [] left event two same = omega (arith, two)
one_event (one ∷ []) left event two same = omega (arith, two)
one_event (one ∷ other ∷ reported) left event two same = Prim.cc same

pub returns-clause-other : goal.returns-clause-other
returns-clause-other c = λ plan old new reported request address lifetime reply listed differs has is.
    differs (sym has.is ∙ (ap (λ (p : Protocol). relayed_listed p.allocations) (same_core (control_at plan.client.transport []) has.core is.held.core new.client has.there is.held.there) ∙ is.held.is.0))

pub returns-clause-twice : goal.returns-clause-twice
returns-clause-twice c = λ plan old new reported request address lifetime reply two is. one_event reported is.held.core.events _ two is.held.is.1

pub returns-clause-unreported : goal.returns-clause-unreported
returns-clause-unreported c = λ plan old new request address lifetime reply has is.
    Prim.cc (sym has.is ∙ (ap (λ (p : Protocol). p.events) (same_core (control_at plan.client.transport []) has.core is.held.core new.client has.there is.held.there) ∙ is.held.is.1))

pub returns-clause-ungranted : goal.returns-clause-ungranted
returns-clause-ungranted c = λ plan old new reported request address lifetime reply same is. grows old.desk.grants _ (sym same ∙ is.granted)

pub returns-clause-unkeyed : goal.returns-clause-unkeyed
returns-clause-unkeyed c = λ plan old new reported request address lifetime reply wrong is. wrong is.algorithm is.reply_is_right

pub returns-clause-refused : goal.returns-clause-refused
returns-clause-refused c = λ plan old new reported listed differs has is.
    differs (sym has.is ∙ (ap (λ (p : Protocol). relayed_listed p.allocations) (same_core (control_at plan.client.transport []) has.core is.held.core new.client has.there is.held.there) ∙ is.held.is.0))
