-- The events of a run determine it.
use Rattle.std.proofs.Common.{◌≡◌, ◌⊎◌, ℕ, false, List, [], ◌∷◌, Option, refl, sym, ap, ◌∙◌, subst, inl, inr}
use Rattle.std.proofs.lemmas.Bool.{cases_Bool}
use Rattle.std.specs.Prelude.{not}
use Rattle.std.specs.List.{AllByRecursion, filter}
use Rattle.std.specs.declared.net.socket_addr.SocketAddr.{SocketAddr}
use Rattle.turn_desk_world.specs.StunProtoAuth.Claims.{claimed}
use Rattle.turn_desk_core.specs.StunProtoServer.Users.{HashesDiffer, NamesOne}
use Rattle.turn_client_proto_step_laws.specs.Recv.ClientState.{ClientState, Leaves}
use Rattle.turn_desk_step_laws.proofs.Answering.{answer_same, hashes_differ_still}
use Rattle.turn_desk_core.specs.State.{State}
use Rattle.turn_desk_event.specs.declared.answer.Answer.{Answer}
use Rattle.turn_desk_event.specs.declared.answer.Answer.TheVariants as answer
use Rattle.turn_desk_core.specs.declared.decision.Decision.{Decision}
use Rattle.turn_desk_event.specs.declared.event.Event.{Event}
use Rattle.turn_desk_event.specs.declared.event.Event.TheVariants.{Call, Draw, ToClient, ToDesk}
use Rattle.turn_desk_world.specs.Calls.{IsCallReported, IsTransmittedAs, IsFed}
use Rattle.turn_desk_world.specs.Desks.{IsReply, words_of}
use Rattle.turn_desk_world.specs.Determined.{AreSame, HaveSameEvents, IsSame}
use Rattle.turn_desk_world.specs.Model.{World}
use Rattle.turn_desk_world.specs.Runs.{IsOfClient, IsOnlyRun, IsRun, IsStep, is_at_desk}
use Rattle.turn_desk_world_laws.proofs.Determined.{AreOne, at_client_once, called_once, transmitted_once, fed_once}
use Rattle.turn_desk_world_laws.proofs.Sides.{client_run, desk_run}

-- ---- the desk

module _ (old : State) (bytes : List ℕ) (from : SocketAddr) (now : ℕ) (decision : Decision) (seed : List ℕ) where
  reply_once : (ret again : Answer) (new other : State) → NamesOne old.auth (claimed bytes) → IsReply ret old bytes from now decision seed new → IsReply again old bytes from now decision seed other → AreOne ret again new other
  reply_once (answer.Reply one) (answer.Reply two) new other names a b = answer_same old from bytes now (words_of seed) names decision one.items two.items new other a.answer b.answer
  reply_once (answer.Reply one) answer.Nothing new other names a b = absurd (b.0 a.served)
  reply_once answer.Nothing (answer.Reply two) new other names a b = absurd (a.0 b.served)
  reply_once answer.Nothing answer.Nothing new other names a b = (refl, a.1 ∙ sym b.1)
  reply_once (answer.Reply one) _ new other names a b = absurd b
  reply_once answer.Nothing _ new other names a b = absurd b
  reply_once _ again new other names a b = absurd a

  -- If no two users have the same hash, none have afterwards.
  differ_still : (ret : Answer) (new : State) → HashesDiffer old.auth → IsReply ret old bytes from now decision seed new → HashesDiffer new.auth
  differ_still (answer.Reply reply) new differ is = hashes_differ_still old new from bytes reply.items now (words_of seed) decision differ is.answer
  differ_still answer.Nothing new differ is = subst (λ (s : State). HashesDiffer s.auth) (sym is.1) differ
  differ_still _ new differ is = absurd is

-- ---- one event

of_client : (old new other : World) → IsOfClient old new → IsOfClient old other → new.client ≡ other.client → new ≡ other
of_client old new other a b same = a ∙ ap (λ (c : Option ClientState). record old { client = c }) same ∙ sym b

-- The event is one of the client, or no two of the server core's users have the same hash.
abbrev pub IsSure : World → Event → Type 0
IsSure w (ToDesk bytes from now decision seed) = HashesDiffer w.desk.auth
IsSure w _ = Unit {0}

step_once : (event : Event) (old : World) (ret again : Answer) (new other : World) → IsSure old event → IsStep event old ret new → IsStep event old again other → IsSame ret again × (new ≡ other)
step_once (Call what now) old ret again new other sure a b =
    let same = at_client_once now (λ x p q. IsCallReported what x p now q) (λ p x y q r. called_once what p now x y q r) old.client ret again new.client other.client a.0 b.0 in
    (same.0, of_client old new other a.1 b.1 same.1)
step_once (Draw now) old ret again new other sure a b =
    let same = at_client_once now (λ x p q. Leaves (λ a b. IsTransmittedAs x a now b) p q) (λ p x y q r. transmitted_once p now x y q r) old.client ret again new.client other.client a.0 b.0 in
    (same.0, of_client old new other a.1 b.1 same.1)
step_once (ToClient bytes from to now) old ret again new other sure a b =
    let same = at_client_once now (λ x p q. IsFed x p bytes.items from to now q) (λ p x y q r. fed_once p bytes.items from to now x y q r) old.client ret again new.client other.client a.0 b.0 in
    (same.0, of_client old new other a.1 b.1 same.1)
step_once (ToDesk bytes from now decision seed) old ret again new other sure a b =
    let same = reply_once old.desk bytes.items from now decision seed ret again new.desk other.desk (λ none. sure) a.0.reply b.0.reply in
    (same.0, a.1 ∙ ap (λ (d : State). record old { desk = d }) same.1 ∙ sym b.1)

-- ---- all of them

-- All events are the client's, or no two users have the same hash.
abbrev pub AreSure : World → List (Event × Answer) → Type 0
AreSure w pairs = AllByRecursion (λ (pair : Event × Answer). is_at_desk pair ≡ false) pairs ⊎ HashesDiffer w.desk.auth

sure_first : (w : World) (pair : Event × Answer) (pairs : List (Event × Answer)) → AreSure w (pair ∷ pairs) → IsSure w pair.0
sure_first w (Call what now, ret) pairs sure = tt
sure_first w (Draw now, ret) pairs sure = tt
sure_first w (ToClient bytes from to now, ret) pairs sure = tt
sure_first w (ToDesk bytes from now decision seed, ret) pairs sure = elim sure [ inl none ↦ absurd (let never : ⊥ = Prim.cc none.0 in never) | inr differ ↦ differ ]

desk_differs : (pair : Event × Answer) (w next : World) → IsStep pair.0 w pair.1 next → HashesDiffer w.desk.auth → HashesDiffer next.desk.auth
desk_differs (Call what now, ret) w next step differ = subst (λ (x : World). HashesDiffer x.desk.auth) (sym step.1) differ
desk_differs (Draw now, ret) w next step differ = subst (λ (x : World). HashesDiffer x.desk.auth) (sym step.1) differ
desk_differs (ToClient bytes from to now, ret) w next step differ = subst (λ (x : World). HashesDiffer x.desk.auth) (sym step.1) differ
desk_differs (ToDesk bytes from now decision seed, ret) w next step differ = differ_still w.desk bytes.items from now decision seed ret next.desk differ step.0.reply

sure_rest : (w next : World) (pair : Event × Answer) (pairs : List (Event × Answer)) → IsStep pair.0 w pair.1 next → AreSure w (pair ∷ pairs) → AreSure next pairs
sure_rest w next pair pairs step sure = elim sure [
  | inl none ↦ inl none.1
  | inr differ ↦ inr (desk_differs pair w next step differ)
]

first_event : (one other : Event × Answer) (pairs others : List (Event × Answer)) → HaveSameEvents (one ∷ pairs) (other ∷ others) → one.0 ≡ other.0
first_event one other pairs others same = Prim.cc same

other_events : (one other : Event × Answer) (pairs others : List (Event × Answer)) → HaveSameEvents (one ∷ pairs) (other ∷ others) → HaveSameEvents pairs others
other_events one other pairs others same = Prim.cc same

pub run_once : (pairs others : List (Event × Answer)) (old new left : World) → AreSure old pairs → HaveSameEvents pairs others → IsRun old pairs new → IsRun old others left → AreSame pairs others × (new ≡ left)
unfolding IsRun
run_once [] [] old new left sure same a b = (tt, a ∙ sym b)
run_once [] (other ∷ others) old new left sure same a b = absurd (let never : ⊥ = Prim.cc same in never)
run_once (one ∷ pairs) [] old new left sure same a b = absurd (let never : ⊥ = Prim.cc same in never)
run_once (one ∷ pairs) (other ∷ others) old new left sure same a b =
    let event : one.0 ≡ other.0 = first_event one other pairs others same in
    let again : IsStep one.0 old other.1 b.0 = subst (λ (e : Event). IsStep e old other.1 b.0) (sym event) b.1 in
    let here = step_once one.0 old one.1 other.1 a.0 b.0 (sure_first old one pairs sure) a.1 again in
    let rest = run_once pairs others a.0 new left (sure_rest old a.0 one pairs a.1 sure) (other_events one other pairs others same) a.2 (subst (λ (w : World). IsRun w others left) (sym here.1) b.2) in
    ((event, here.0, rest.0), rest.1)

-- ---- each side's events

none_at_desk : (pairs : List (Event × Answer)) → AllByRecursion (λ (pair : Event × Answer). is_at_desk pair ≡ false) (filter (λ pair. not (is_at_desk pair)) pairs)
none_at_desk [] = tt
none_at_desk (pair ∷ pairs) = elim (cases_Bool (is_at_desk pair)) [
  | inl is ↦ rw is (none_at_desk pairs)
  | inr isnt ↦ rw isnt (isnt, none_at_desk pairs)
]

pub only_desk : (pairs : List (Event × Answer)) (old new : World) → IsRun old pairs new → HashesDiffer old.desk.auth → IsOnlyRun old (filter is_at_desk pairs) (record new { client = old.client })
only_desk pairs old new run differ = λ others left same other.
    run_once (filter is_at_desk pairs) others old (record new { client = old.client }) left (inr differ) same (desk_run pairs old new run) other

pub only_client : (pairs : List (Event × Answer)) (old new : World) → IsRun old pairs new → IsOnlyRun old (filter (λ pair. not (is_at_desk pair)) pairs) (record new { desk = old.desk })
only_client pairs old new run = λ others left same other.
    run_once (filter (λ pair. not (is_at_desk pair)) pairs) others old (record new { desk = old.desk }) left (inl (none_at_desk pairs)) same (client_run pairs old new run) other
