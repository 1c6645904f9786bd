-- Non-interference over whole runs of a simulation, by the theorem on a server core's runs.
use Rattle.std.proofs.Common.{◌≡◌, ℕ, Bool, true, false, if◌then◌else◌, None, List, [], ◌∷◌, filter, refl, sym, ap, ◌∙◌, subst, ◌⊎◌, inl, inr}
use Rattle.std.specs.List.{AllByRecursion}
use Rattle.std.specs.declared.net.socket_addr.SocketAddr.{SocketAddr}
use Rattle.turn_desk_core.specs.StunTypesWire.Headers.{AreBytes}
use Rattle.turn_desk_core.specs.StunProtoServer.AuthRuns.{is_same_address}
use Rattle.turn_desk_core.specs.StunProtoServer.Users.{HashesDiffer}
use Rattle.turn_desk_core.specs.DeskCalls.{AreAlike, IsServerRun, MakeNoRoom as DeskMakesNoRoom, ServerAnswer, ServerCall, concerning, concerns}
use Rattle.turn_desk_core.specs.DeskCalls as core
use Rattle.turn_desk_core.specs.State.{State}
use Rattle.turn_desk_core.proofs.StunProtoServer.Unlimited.{no_room}
use Rattle.turn_desk_core.proofs.Unlimited.{answered_limit}
use Rattle.turn_desk_event.specs.declared.answer.Answer.{Answer}
use Rattle.turn_desk_event.specs.declared.answer.Answer.TheVariants as answer
use Rattle.turn_desk_core.specs.declared.decision.Decision.{Decision}
use Rattle.turn_desk_event.specs.declared.event.Event.{Event}
use Rattle.turn_desk_event.specs.declared.event.Event.TheVariants.{Call, Draw, ToClient, ToDesk}
use Rattle.turn_desk_world_laws.specs.AddressRuns.{AreAnsweredAlike, EventMakesNoRoom, IsIsolated, MakeNoRoom, come_from, is_from}
use Rattle.turn_desk_world.specs.Desks.{HasFourBytes, IsReply, words_of}
use Rattle.turn_desk_world.specs.Determined.{HaveSameEvents}
use Rattle.turn_desk_world.specs.Model.{World}
use Rattle.turn_desk_world.specs.Runs.{IsRun, IsStep}
use Rattle.turn_desk_world_laws.proofs.Once.{run_once}

-- ---- the desk's calls of a run

-- The server core's result.
abbrev reported : Answer → ServerAnswer
reported (answer.Reply reply) = core.Reply reply.items
reported _ = core.NoReply

-- The calls of the server core, each with its result.
abbrev calls : List (Event × Answer) → List (ServerCall × ServerAnswer)
calls [] = []
calls ((Call call now, ret) ∷ pairs) = calls pairs
calls ((Draw now, ret) ∷ pairs) = calls pairs
calls ((ToClient bytes from to now, ret) ∷ pairs) = calls pairs
calls ((ToDesk bytes from now decision seed, ret) ∷ pairs) =
    (core.Handle bytes.items from now decision (words_of seed), reported ret) ∷ calls pairs

handled : (ret : Answer) (old new : State) (bytes : List ℕ) (from : SocketAddr) (now : ℕ) (decision : Decision) (seed : List ℕ) → IsReply ret old bytes from now decision seed new
    → core.IsHandledBy (reported ret) old bytes from now decision (words_of seed) new
handled (answer.Reply reply) old new bytes from now decision seed is = record { served = is.served; answer = is.answer; grants = is.grants; others = is.others }
handled answer.Nothing old new bytes from now decision seed is = is
handled _ old new bytes from now decision seed is = absurd is

-- A run of a server core in which, but for one address, no call makes room.
record IsDeskRun (address : SocketAddr) (pairs : List (ServerCall × ServerAnswer)) (new old : State) : Type 0 where
  run : IsServerRun old pairs new
  none : DeskMakesNoRoom address old pairs new run

-- A run of a simulation is a run of its server core.
desk_called : (address : SocketAddr) (pairs : List (Event × Answer)) (old new : World) (run : IsRun old pairs new) → MakeNoRoom address old pairs new run → IsDeskRun address (calls pairs) new.desk old.desk
unfolding IsRun IsServerRun MakeNoRoom DeskMakesNoRoom
desk_called address [] old new run none = record { run = ap (λ (w : World). w.desk) run; none = tt }
desk_called address ((Call call now, ret) ∷ pairs) old new run none =
    subst (IsDeskRun address (calls pairs) new.desk) (ap (λ (w : World). w.desk) run.1.1) (desk_called address pairs run.0 new run.2 none.1)
desk_called address ((Draw now, ret) ∷ pairs) old new run none =
    subst (IsDeskRun address (calls pairs) new.desk) (ap (λ (w : World). w.desk) run.1.1) (desk_called address pairs run.0 new run.2 none.1)
desk_called address ((ToClient bytes from to now, ret) ∷ pairs) old new run none =
    subst (IsDeskRun address (calls pairs) new.desk) (ap (λ (w : World). w.desk) run.1.1) (desk_called address pairs run.0 new run.2 none.1)
desk_called address ((ToDesk bytes from now decision seed, ret) ∷ pairs) old new run none =
    let rest = desk_called address pairs run.0 new run.2 none.1 in
    record {
      run = (run.0.desk, handled ret old.desk run.0.desk bytes.items from now decision seed run.1.0.reply, rest.run);
      none = (none.0, rest.none);
    }

-- ---- and back

-- The result is one of a server core's.
abbrev IsOfDesk : Answer → Type 0
IsOfDesk (answer.Reply reply) = AreBytes reply.items
IsOfDesk answer.Nothing = Unit {0}
IsOfDesk _ = ⊥

-- What a run says of its events and results, whatever the server core is. They all reach the server core.
abbrev FitsDesk : Event × Answer → Type 0
FitsDesk (ToDesk bytes from now decision seed, ret) = AreBytes bytes.items × HasFourBytes decision × IsOfDesk ret
FitsDesk _ = ⊥

replied : (ret : Answer) (old new : State) (bytes : List ℕ) (from : SocketAddr) (now : ℕ) (decision : Decision) (seed : List ℕ) → IsOfDesk ret
    → core.IsHandledBy (reported ret) old bytes from now decision (words_of seed) new → IsReply ret old bytes from now decision seed new
replied (answer.Reply reply) old new bytes from now decision seed are_bytes is =
    record { served = is.served; answer = is.answer; grants = is.grants; others = is.others; are_bytes = are_bytes }
replied answer.Nothing old new bytes from now decision seed own is = is
replied _ old new bytes from now decision seed own is = absurd own

-- A run of a server core is one of a simulation whose client doesn't change.
world_requested : (pairs : List (Event × Answer)) (old : World) (d left : State) → AllByRecursion FitsDesk pairs → IsServerRun d (calls pairs) left
    → IsRun (record old { desk = d }) pairs (record old { desk = left })
unfolding IsRun IsServerRun
world_requested [] old d left fits run = ap (λ (x : State). record old { desk = x }) run
world_requested ((ToDesk bytes from now decision seed, ret) ∷ pairs) old d left fits run = (
  record old { desk = run.0 },
  (
    record { are_bytes = fits.0.0; four_bytes = fits.0.1; reply = replied ret d run.0 bytes.items from now decision seed fits.0.2 run.1 },
    refl,
  ),
  world_requested pairs old run.0 left fits.1 run.2,
)
world_requested (_ ∷ pairs) old d left fits run = absurd fits.0

of_desk : (ret : Answer) (old new : State) (bytes : List ℕ) (from : SocketAddr) (now : ℕ) (decision : Decision) (seed : List ℕ) → IsReply ret old bytes from now decision seed new → IsOfDesk ret
of_desk (answer.Reply reply) old new bytes from now decision seed is = is.are_bytes
of_desk answer.Nothing old new bytes from now decision seed is = tt
of_desk _ old new bytes from now decision seed is = absurd is

-- ---- one address

bool_is : (b : Bool) → (b ≡ true) ⊎ (b ≡ false)
bool_is true = inl refl
bool_is false = inr refl

filter_yes : {X : Type 0} (test : X → Bool) (x : X) (xs : List X) → test x ≡ true → filter test (x ∷ xs) ≡ x ∷ filter test xs
filter_yes test x xs e = ap (λ (b : Bool). if b then x ∷ filter test xs else filter test xs) e

filter_no : {X : Type 0} (test : X → Bool) (x : X) (xs : List X) → test x ≡ false → filter test (x ∷ xs) ≡ filter test xs
filter_no test x xs e = ap (λ (b : Bool). if b then x ∷ filter test xs else filter test xs) e

-- What came from an address all reached the server core.
fits_from : (address : SocketAddr) (pairs : List (Event × Answer)) (old new : World) → IsRun old pairs new → AllByRecursion FitsDesk (come_from address pairs)
unfolding IsRun
fits_from address [] old new run = tt
fits_from address ((Call call now, ret) ∷ pairs) old new run = fits_from address pairs run.0 new run.2
fits_from address ((Draw now, ret) ∷ pairs) old new run = fits_from address pairs run.0 new run.2
fits_from address ((ToClient bytes from to now, ret) ∷ pairs) old new run = fits_from address pairs run.0 new run.2
fits_from address ((ToDesk bytes from now decision seed, ret) ∷ pairs) old new run =
    let pair : Event × Answer = (ToDesk bytes from now decision seed, ret) in
    let rest = fits_from address pairs run.0 new run.2 in
    let requested = run.1.0 in
    let own = of_desk ret old.desk run.0.desk bytes.items from now decision seed requested.reply in
    elim (bool_is (is_same_address address from)) [
      | inl is ↦ subst (λ (list : List (Event × Answer)). AllByRecursion FitsDesk list) (sym (filter_yes (is_from address) pair pairs is)) ((requested.are_bytes, requested.four_bytes, own), rest)
      | inr isnt ↦ subst (λ (list : List (Event × Answer)). AllByRecursion FitsDesk list) (sym (filter_no (is_from address) pair pairs isnt)) rest
    ]

abbrev concerned : SocketAddr → ServerCall × ServerAnswer → Bool
concerned address = λ pair. concerns address pair.0

-- The calls that concern an address are those for what came from it.
calls_from : (address : SocketAddr) (pairs : List (Event × Answer)) → concerning address (calls pairs) ≡ calls (come_from address pairs)
calls_from address [] = refl
calls_from address ((Call call now, ret) ∷ pairs) = calls_from address pairs
calls_from address ((Draw now, ret) ∷ pairs) = calls_from address pairs
calls_from address ((ToClient bytes from to now, ret) ∷ pairs) = calls_from address pairs
calls_from address ((ToDesk bytes from now decision seed, ret) ∷ pairs) =
    let pair : Event × Answer = (ToDesk bytes from now decision seed, ret) in
    let one : ServerCall × ServerAnswer = (core.Handle bytes.items from now decision (words_of seed), reported ret) in
    elim (bool_is (is_same_address address from)) [
      | inl is ↦ filter_yes (concerned address) one (calls pairs) is ∙ (ap (λ (list : List (ServerCall × ServerAnswer)). one ∷ list) (calls_from address pairs)
          ∙ sym (ap calls (filter_yes (is_from address) pair pairs is)))
      | inr isnt ↦ filter_no (concerned address) one (calls pairs) isnt ∙ (calls_from address pairs ∙ sym (ap calls (filter_no (is_from address) pair pairs isnt)))
    ]

-- ---- desks that an address can't say apart

same-refl : (address : SocketAddr) (d : State) → AreAlike address d d
same-refl address d = record {
  auth = record { realm = refl; users = refl; nonce_expiry = refl; algorithms = refl; anonymous_username = refl; max_clients = refl; stored = refl };
  grants = refl;
}

turned : (address : SocketAddr) (a b : State) → AreAlike address a b → AreAlike address b a
turned address a b same = record {
  auth = record {
    realm = sym same.auth.realm;
    users = sym same.auth.users;
    nonce_expiry = sym same.auth.nonce_expiry;
    algorithms = sym same.auth.algorithms;
    anonymous_username = sym same.auth.anonymous_username;
    max_clients = sym same.auth.max_clients;
    stored = sym same.auth.stored;
  };
  grants = sym same.grants;
}

then_same : (address : SocketAddr) (a b c : State) → AreAlike address a b → AreAlike address b c → AreAlike address a c
then_same address a b c first second = record {
  auth = record {
    realm = second.auth.realm ∙ first.auth.realm;
    users = second.auth.users ∙ first.auth.users;
    nonce_expiry = second.auth.nonce_expiry ∙ first.auth.nonce_expiry;
    algorithms = second.auth.algorithms ∙ first.auth.algorithms;
    anonymous_username = second.auth.anonymous_username ∙ first.auth.anonymous_username;
    max_clients = second.auth.max_clients ∙ first.auth.max_clients;
    stored = second.auth.stored ∙ first.auth.stored;
  };
  grants = second.grants ∙ first.grants;
}

-- ---- without a limit

-- A result keeps the limit.
replied_limit : (ret : Answer) (old new : State) (bytes : List ℕ) (from : SocketAddr) (now : ℕ) (decision : Decision) (seed : List ℕ) → IsReply ret old bytes from now decision seed new → new.auth.max_clients ≡ old.auth.max_clients
replied_limit (answer.Reply reply) old new bytes from now decision seed is = answered_limit old new from bytes now (words_of seed) decision reply.items is.answer
replied_limit answer.Nothing old new bytes from now decision seed is = ap (λ (d : State). d.auth.max_clients) is.1
replied_limit _ old new bytes from now decision seed is = absurd is

step_limit : (event : Event) (ret : Answer) (old new : World) → IsStep event old ret new → new.desk.auth.max_clients ≡ old.desk.auth.max_clients
step_limit (Call call now) ret old new step = ap (λ (w : World). w.desk.auth.max_clients) step.1
step_limit (Draw now) ret old new step = ap (λ (w : World). w.desk.auth.max_clients) step.1
step_limit (ToClient bytes from to now) ret old new step = ap (λ (w : World). w.desk.auth.max_clients) step.1
step_limit (ToDesk bytes from now decision seed) ret old new step = replied_limit ret old.desk new.desk bytes.items from now decision seed step.0.reply

event_makes_none : (old : World) (event : Event) → old.desk.auth.max_clients ≡ None → EventMakesNoRoom old event
event_makes_none old (ToDesk bytes from now decision seed) none = no_room old.desk.auth from none
event_makes_none old _ none = tt

-- Without a limit, nothing makes room in a run.
pub makes_no_room : (address : SocketAddr) (pairs : List (Event × Answer)) (old new : World) → old.desk.auth.max_clients ≡ None → (run : IsRun old pairs new) → MakeNoRoom address old pairs new run
unfolding IsRun MakeNoRoom
makes_no_room address [] old new none run = tt
makes_no_room address (pair ∷ pairs) old new none run =
    ((λ other. event_makes_none old pair.0 none), makes_no_room address pairs run.0 new (step_limit pair.0 pair.1 old run.0 run.1 ∙ none) run.2)

-- ---- the theorem

-- What the theorem on a server core's runs says.
abbrev pub DeskLaw : Type 0
DeskLaw = (address : SocketAddr) (old other new : State) (pairs : List (ServerCall × ServerAnswer)) → AreAlike address old other → (run : IsServerRun old pairs new) → DeskMakesNoRoom address old pairs new run → core.IsIsolated address other pairs new

module _ (law : DeskLaw) where
  -- What comes from an address has the same results alone.
  pub is_isolated : (address : SocketAddr) (old other new : World) (pairs : List (Event × Answer)) → AreAlike address old.desk other.desk → (run : IsRun old pairs new) → MakeNoRoom address old pairs new run → IsIsolated address other pairs new
  is_isolated address old other new pairs same run none =
      let desk = desk_called address pairs old new run none in
      let alone = law address old.desk other.desk new.desk (calls pairs) same desk.run desk.none in
      let own = subst (λ (list : List (ServerCall × ServerAnswer)). IsServerRun other.desk list alone.left) (calls_from address pairs) alone.run in
      record {
        left = alone.left;
        run = world_requested (come_from address pairs) other other.desk alone.left (fits_from address pairs old new run) own;
        alike = alone.alike;
      }

  -- The same events from an address have the same results, if it can't distinguish the server cores.
  pub answers_are_fixed : (address : SocketAddr) (old other new left : World) (pairs others : List (Event × Answer)) → AreAlike address old.desk other.desk → HashesDiffer old.desk.auth
      → HaveSameEvents (come_from address pairs) (come_from address others) → (run : IsRun old pairs new) → MakeNoRoom address old pairs new run
      → (again : IsRun other others left) → MakeNoRoom address other others left again → AreAnsweredAlike address pairs others new left
  answers_are_fixed address old other new left pairs others same differ events run none again none_again =
      let one = is_isolated address old old new pairs (same-refl address old.desk) run none in
      let two = is_isolated address other old left others (turned address old.desk other.desk same) again none_again in
      let both = run_once (come_from address pairs) (come_from address others) old (record old { desk = one.left }) (record old { desk = two.left }) (inr differ) events one.run two.run in
      let desks : one.left ≡ two.left = ap (λ (w : World). w.desk) both.1 in
      record {
        answers = both.0;
        alike = then_same address new.desk one.left left.desk one.alike
            (turned address left.desk one.left (subst (λ (d : State). AreAlike address left.desk d) (sym desks) two.alike));
      }
