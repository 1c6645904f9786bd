-- A run in which messages of other addresses reach the server core, and the run without these.
use Rattle.std.proofs.Common.{◌≡◌, ◌++◌, ℕ, Bool, true, false, if◌then◌else◌, None, List, [], ◌∷◌, Vec, filter, refl, sym, ap, ◌∙◌, subst, ◌⊎◌, inl, inr}
use Rattle.std.specs.declared.alloc.Global.{Global}
use Rattle.std.specs.declared.net.socket_addr.SocketAddr.{SocketAddr}
use Rattle.turn_desk_core.specs.StunProtoServer.AuthRuns.{is_same_address}
use Rattle.turn_desk_core.specs.DeskCalls.{AreAlike}
use Rattle.turn_desk_core.specs.State.{State}
use Rattle.turn_desk_core.proofs.StunProtoServer.Calls.{other_address_is, same_address_is}
use Rattle.turn_desk_core.proofs.StunProtoServer.Isolated.{same_itself}
use Rattle.turn_desk_core.proofs.Unlimited.{answered_limit}
use Rattle.turn_client_proto_messages.specs.TurnRuns.Members.{IsIn}
use Rattle.turn_client_proto_api.specs.declared.event.TurnEvent.{TurnEvent}
use Rattle.turn_desk_core.specs.declared.decision.Decision.{Decision}
use Rattle.turn_desk_event.specs.declared.answer.Answer.{Answer}
use Rattle.turn_desk_event.specs.declared.answer.Answer.TheVariants as answer
use Rattle.turn_desk_event.specs.declared.event.Event.{Event}
use Rattle.turn_desk_event.specs.declared.event.Event.TheVariants.{Call, Draw, ToClient, ToDesk}
use Rattle.turn_desk_world_laws.specs.AddressRuns.{IsIsolated, MakeNoRoom, come_from, is_from}
use Rattle.turn_desk_world_laws.specs.World.Desks.{IsReply, words_of}
use Rattle.turn_desk_world_laws.specs.World.Model.{World}
use Rattle.turn_desk_world_laws.specs.World.Runs.{IsRun, IsStep}
use Rattle.turn_desk_progress_laws.specs.Promises.{event_in, events_in}
use Rattle.turn_desk_laws.specs.Beside.{AreBeside, IsOfOther, IsOfOwn, IsRunWithout}

-- ---- lists

pub bool_is : (b : Bool) → (b ≡ true) ⊎ (b ≡ false)
bool_is true = inl refl
bool_is false = inr refl

pub filter_yes : {X : Type 0} (test : X → Bool) (x : X) (xs : List X) → test x ≡ true → filter test (x ∷ xs) ≡ x ∷ filter test xs
filter_yes test x xs e = ap (λ (b : Bool). if b then x ∷ filter test xs else filter test xs) e

pub filter_no : {X : Type 0} (test : X → Bool) (x : X) (xs : List X) → test x ≡ false → filter test (x ∷ xs) ≡ filter test xs
filter_no test x xs e = ap (λ (b : Bool). if b then x ∷ filter test xs else filter test xs) e

-- ---- server cores that an address can't distinguish

alike_itself : (address : SocketAddr) (d : State) → AreAlike address d d
alike_itself address d = record {
  auth = record { realm = refl; users = refl; nonce_expiry = refl; algorithms = refl; anonymous_username = refl; max_clients = refl; stored = refl };
  grants = refl;
}

alike_back : (address : SocketAddr) (a b : State) → AreAlike address a b → AreAlike address b a
alike_back address a b same = record {
  auth = record {
    realm = sym same.auth.realm;
    users = sym same.auth.users;
    nonce_expiry = sym same.auth.nonce_expiry;
    algorithms = sym same.auth.algorithms;
    anonymous_username = sym same.auth.anonymous_username;
    max_clients = sym same.auth.max_clients;
    stored = sym same.auth.stored;
  };
  grants = sym same.grants;
}

alike_then : (address : SocketAddr) (a b c : State) → AreAlike address a b → AreAlike address b c → AreAlike address a c
alike_then address a b c first second = record {
  auth = record {
    realm = second.auth.realm ∙ first.auth.realm;
    users = second.auth.users ∙ first.auth.users;
    nonce_expiry = second.auth.nonce_expiry ∙ first.auth.nonce_expiry;
    algorithms = second.auth.algorithms ∙ first.auth.algorithms;
    anonymous_username = second.auth.anonymous_username ∙ first.auth.anonymous_username;
    max_clients = second.auth.max_clients ∙ first.auth.max_clients;
    stored = second.auth.stored ∙ first.auth.stored;
  };
  grants = second.grants ∙ first.grants;
}

-- None of these addresses can.
abbrev AreEachAlike : List SocketAddr → State → State → Type 0
AreEachAlike own a b = (address : SocketAddr) → IsIn address own → AreAlike address a b

-- ---- without a limit

replied_limit : (ret : Answer) (old new : State) (bytes : List ℕ) (from : SocketAddr) (now : ℕ) (decision : Decision) (seed : List ℕ) → IsReply ret old bytes from now decision seed new → new.auth.max_clients ≡ old.auth.max_clients
replied_limit (answer.Reply reply) old new bytes from now decision seed is = answered_limit old new from bytes now (words_of seed) decision reply.items is.answer
replied_limit answer.Nothing old new bytes from now decision seed is = ap (λ (d : State). d.auth.max_clients) is.1
replied_limit _ old new bytes from now decision seed is = absurd is

step_limit : (event : Event) (ret : Answer) (old new : World) → IsStep event old ret new → new.desk.auth.max_clients ≡ old.desk.auth.max_clients
step_limit (Call call now) ret old new step = ap (λ (w : World). w.desk.auth.max_clients) step.1
step_limit (Draw now) ret old new step = ap (λ (w : World). w.desk.auth.max_clients) step.1
step_limit (ToClient bytes from to now) ret old new step = ap (λ (w : World). w.desk.auth.max_clients) step.1
step_limit (ToDesk bytes from now decision seed) ret old new step = replied_limit ret old.desk new.desk bytes.items from now decision seed step.0.reply

-- ---- runs of one event, and of none

one_run : (event : Event) (ret : Answer) (old new : World) → IsStep event old ret new → IsRun old ((event, ret) ∷ []) new
unfolding IsRun
one_run event ret old new step = (new, step, refl)

step_of : (event : Event) (ret : Answer) (old new : World) → IsRun old ((event, ret) ∷ []) new → IsStep event old ret new
unfolding IsRun
step_of event ret old new run = subst (λ (w : World). IsStep event old ret w) (sym run.2) run.1

no_run : (old new : World) → IsRun old [] new → new ≡ old
unfolding IsRun
no_run old new run = run

-- ---- one event

abbrev pub AloneLaw : Type 0
AloneLaw = (address : SocketAddr) (old other new : World) (pairs : List (Event × Answer)) → AreAlike address old.desk other.desk → (run : IsRun old pairs new) → MakeNoRoom address old pairs new run → IsIsolated address other pairs new

abbrev pub UnlimitedLaw : Type 0
UnlimitedLaw = (address : SocketAddr) (old new : World) (pairs : List (Event × Answer)) → old.desk.auth.max_clients ≡ None → (run : IsRun old pairs new) → MakeNoRoom address old pairs new run

-- On another server core the event has the same result.
record IsAnsweredSo (address : SocketAddr) (event : Event) (ret : Answer) (new other : World) : Type 0 where
  left : State
  step : IsStep event other ret (record other { desk = left })
  alike : AreAlike address new.desk left

-- The same with a server core `desk` of `old`, whose client is that of `old`.
record IsKeptStep (own : List SocketAddr) (event : Event) (ret : Answer) (old next : World) (desk : State) : Type 0 where
  left : State
  step : IsStep event (record old { desk = desk }) ret (record next { desk = left })
  each : AreEachAlike own next.desk left

module _ (alone : AloneLaw) (unlimited : UnlimitedLaw) where
  module _ (bytes : Vec ℕ Global) (from : SocketAddr) (now : ℕ) (decision : Decision) (seed : List ℕ) (ret : Answer) where
    abbrev message : Event
    message = ToDesk bytes from now decision seed

    abbrev handled : Event × Answer
    handled = (message, ret)

    module _ (address : SocketAddr) (old new : World) (none : old.desk.auth.max_clients ≡ None) (step : IsStep message old ret new) where
      -- Another address can't distinguish the server core from that before.
      from_other : is_same_address address from ≡ false → AreAlike address new.desk old.desk
      from_other apart =
          let run = one_run message ret old new step in
          let is = alone address old old new (handled ∷ []) (alike_itself address old.desk) run (unlimited address old new (handled ∷ []) none run) in
          let nothing : IsRun old [] (record old { desk = is.left }) = subst (λ (l : List (Event × Answer)). IsRun old l (record old { desk = is.left })) (filter_no (is_from address) handled [] apart) is.run in
          let same : is.left ≡ old.desk = ap (λ (w : World). w.desk) (no_run old (record old { desk = is.left }) nothing) in
          subst (λ (d : State). AreAlike address new.desk d) same is.alike

      from_own : (other : World) → AreAlike address old.desk other.desk → is_same_address address from ≡ true → IsAnsweredSo address message ret new other
      from_own other same at =
          let run = one_run message ret old new step in
          let is = alone address old other new (handled ∷ []) same run (unlimited address old new (handled ∷ []) none run) in
          let one : IsRun other (handled ∷ []) (record other { desk = is.left }) = subst (λ (l : List (Event × Answer)). IsRun other l (record other { desk = is.left })) (filter_yes (is_from address) handled [] at) is.run in
          record { left = is.left; step = step_of message ret other (record other { desk = is.left }) one; alike = is.alike }

    module _ (own : List SocketAddr) (old next : World) (desk : State) (none : old.desk.auth.max_clients ≡ None) (limit : desk.auth.max_clients ≡ None) (each : AreEachAlike own old.desk desk) (step : IsStep message old ret next) where
      abbrev beside : World
      beside = record old { desk = desk }

      apart_from : (address : SocketAddr) → IsIn address own → (IsIn from own → ⊥) → is_same_address address from ≡ false
      apart_from address among outside = elim (bool_is (is_same_address address from)) [
        | inl at ↦ absurd (outside (subst (λ (x : SocketAddr). IsIn x own) (same_address_is address from at) among))
        | inr apart ↦ apart
      ]

      others_alike : (IsIn from own → ⊥) → AreEachAlike own next.desk desk
      others_alike outside = λ address among. alike_then address next.desk old.desk desk (from_other address old next none step (apart_from address among outside)) (each address among)

      kept_alike : (left : State) → AreAlike from next.desk left → IsStep message beside ret (record beside { desk = left }) → AreEachAlike own next.desk left
      kept_alike left alike again = λ address among. elim (bool_is (is_same_address address from)) [
        | inl at ↦ subst (λ (x : SocketAddr). AreAlike x next.desk left) (sym (same_address_is address from at)) alike
        | inr apart ↦ alike_then address next.desk old.desk left (from_other address old next none step apart)
            (alike_then address old.desk desk left (each address among) (alike_back address left desk (from_other address beside (record beside { desk = left }) limit again apart)))
      ]

      stays_stored : is_same_address from from ≡ true → IsIn from own → IsKeptStep own message ret old next desk
      stays_stored itself among =
          let one = from_own from old next none step beside (each from among) itself in
          record {
            left = one.left;
            step = subst (λ (w : World). IsStep message beside ret w) (sym (ap (λ (w : World). record w { desk = one.left }) step.1)) one.step;
            each = kept_alike one.left one.alike one.step;
          }

  -- ---- any event

  module _ (own : List SocketAddr) (ret : Answer) (old next : World) (desk : State) (none : old.desk.auth.max_clients ≡ None) (limit : desk.auth.max_clients ≡ None) (each : AreEachAlike own old.desk desk) where
    -- The server core of the next state is the same.
    same_desk : next.desk ≡ old.desk → AreEachAlike own next.desk desk
    same_desk same = subst (λ (d : State). AreEachAlike own d desk) (sym same) each

    kept_step : (event : Event) → IsOfOwn own event → IsStep event old ret next → IsKeptStep own event ret old next desk
    kept_step (Call call now) is step = record { left = desk; step = (step.0, ap (λ (w : World). record w { desk = desk }) step.1); each = same_desk (ap (λ (w : World). w.desk) step.1) }
    kept_step (Draw now) is step = record { left = desk; step = (step.0, ap (λ (w : World). record w { desk = desk }) step.1); each = same_desk (ap (λ (w : World). w.desk) step.1) }
    kept_step (ToClient bytes from to now) is step = record { left = desk; step = (step.0, ap (λ (w : World). record w { desk = desk }) step.1); each = same_desk (ap (λ (w : World). w.desk) step.1) }
    kept_step (ToDesk bytes from now decision seed) is step = stays_stored bytes from now decision seed ret own old next desk none limit each step (same_itself from) is

    apart_each : (event : Event) → IsOfOther own event → IsStep event old ret next → AreEachAlike own next.desk desk
    apart_each (ToDesk bytes from now decision seed) is step = others_alike bytes from now decision seed ret own old next desk none limit each step is
    apart_each (Call call now) is step = absurd is
    apart_each (Draw now) is step = absurd is
    apart_each (ToClient bytes from to now) is step = absurd is

    -- The client is the same.
    apart_same : (event : Event) → IsOfOther own event → IsStep event old ret next → record next { desk = desk } ≡ record old { desk = desk }
    apart_same (ToDesk bytes from now decision seed) is step = ap (λ (w : World). record w { desk = desk }) step.1
    apart_same (Call call now) is step = absurd is
    apart_same (Draw now) is step = absurd is
    apart_same (ToClient bytes from to now) is step = absurd is

  -- ---- all of them

  all : (own : List SocketAddr) (without pairs : List (Event × Answer)) (old new : World) (desk : State) → old.desk.auth.max_clients ≡ None → desk.auth.max_clients ≡ None → AreEachAlike own old.desk desk → IsRun old pairs new → AreBeside own without pairs
      → IsRunWithout own (record old { desk = desk }) without new
  unfolding IsRun AreBeside
  all own without [] old new desk none limit each run is = record {
    left = desk;
    run = subst (λ (l : List (Event × Answer)). IsRun (record old { desk = desk }) l (record new { desk = desk })) (sym is) (ap (λ (w : World). record w { desk = desk }) run);
    alike = subst (λ (w : World). AreEachAlike own w.desk desk) (sym run) each;
  }
  all own without ((event, ret) ∷ pairs) old new desk none limit each run (inl is) =
      let rest = all own without pairs run.0 new desk (step_limit event ret old run.0 run.1 ∙ none) limit (apart_each own ret old run.0 desk none limit each event is.0 run.1) run.2 is.1 in
      subst (λ (w : World). IsRunWithout own w without new) (apart_same own ret old run.0 desk none limit each event is.0 run.1) rest
  all own without ((event, ret) ∷ pairs) old new desk none limit each run (inr is) =
      let one = kept_step own ret old run.0 desk none limit each event is.2 run.1 in
      let still = step_limit event ret (record old { desk = desk }) (record run.0 { desk = one.left }) one.step ∙ limit in
      let rest = all own is.0 pairs run.0 new one.left (step_limit event ret old run.0 run.1 ∙ none) still one.each run.2 is.3 in
      record {
        left = rest.left;
        run = subst (λ (l : List (Event × Answer)). IsRun (record old { desk = desk }) l (record new { desk = rest.left })) (sym is.1) (record run.0 { desk = one.left }, one.step, rest.run);
        alike = rest.alike;
      }

  pub is_alone : (own : List SocketAddr) (old new : World) (without pairs : List (Event × Answer)) → old.desk.auth.max_clients ≡ None → IsRun old pairs new → AreBeside own without pairs → IsRunWithout own old without new
  is_alone own old new without pairs none run is = all own without pairs old new old.desk none none (λ address among. alike_itself address old.desk) run is

-- ---- what was reported

replied_silent : (ret : Answer) (old new : State) (bytes : List ℕ) (from : SocketAddr) (now : ℕ) (decision : Decision) (seed : List ℕ) → IsReply ret old bytes from now decision seed new → event_in ret ≡ []
replied_silent (answer.Reply reply) old new bytes from now decision seed is = refl
replied_silent answer.Nothing old new bytes from now decision seed is = refl
replied_silent _ old new bytes from now decision seed is = absurd is

silent : (own : List SocketAddr) (event : Event) (ret : Answer) (old new : World) → IsOfOther own event → IsStep event old ret new → event_in ret ≡ []
silent own (ToDesk bytes from now decision seed) ret old new is step = replied_silent ret old.desk new.desk bytes.items from now decision seed step.0.reply
silent own (Call call now) ret old new is step = absurd is
silent own (Draw now) ret old new is step = absurd is
silent own (ToClient bytes from to now) ret old new is step = absurd is

pub same_events : (own : List SocketAddr) (without pairs : List (Event × Answer)) (old new : World) → IsRun old pairs new → AreBeside own without pairs → events_in without ≡ events_in pairs
unfolding IsRun AreBeside
same_events own without [] old new run is = ap events_in is
same_events own without ((event, ret) ∷ pairs) old new run (inl is) =
    same_events own without pairs run.0 new run.2 is.1 ∙ ap (λ (l : List TurnEvent). l ++ events_in pairs) (sym (silent own event ret old run.0 is.0 run.1))
same_events own without ((event, ret) ∷ pairs) old new run (inr is) =
    ap events_in is.1 ∙ ap (λ (l : List TurnEvent). event_in ret ++ l) (same_events own is.0 pairs run.0 new run.2 is.3)

-- ---- which events these are

is_among : (from : SocketAddr) (own : List SocketAddr) → IsIn from own ⊎ (IsIn from own → ⊥)
is_among from [] = inr (λ among. among)
is_among from (one ∷ own) = elim (bool_is (is_same_address one from)) [
  | inl at ↦ inl (inl (same_address_is one from at))
  | inr apart ↦ elim (is_among from own) [
    | inl among ↦ inl (inr among)
    | inr outside ↦ inr (λ among. elim among [
      | inl same ↦ other_address_is one from apart same
      | inr among ↦ outside among
    ])
  ]
]

is_other : (own : List SocketAddr) (event : Event) → IsOfOther own event ⊎ IsOfOwn own event
is_other own (ToDesk bytes from now decision seed) = elim (is_among from own) [
  | inl among ↦ inr among
  | inr outside ↦ inl outside
]
is_other own (Call call now) = inr tt
is_other own (Draw now) = inr tt
is_other own (ToClient bytes from to now) = inr tt

pub any_beside : (own : List SocketAddr) (pairs : List (Event × Answer)) → (without : List (Event × Answer)) × AreBeside own without pairs
unfolding AreBeside
any_beside own [] = ([], refl)
any_beside own (pair ∷ pairs) =
    let rest = any_beside own pairs in
    elim (is_other own pair.0) [
      | inl other ↦ (rest.0, inl (other, rest.1))
      | inr is ↦ (pair ∷ rest.0, inr (rest.0, refl, is, rest.1))
    ]
