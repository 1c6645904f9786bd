-- Runs, one after another.
use Rattle.std.proofs.Common.{Option, Bool, Vec, Global, ◌≡◌, ◌<◌, ◌+◌, ℕ, get_or, take, List, [], ◌∷◌, ◌++◌, length, refl, sym, ap, ◌∙◌, subst, arith}
use Rattle.std.specs.List.{zip}
use Rattle.std.specs.Prelude.{IfOk, Result, Ok, Err}
use Rattle.std.proofs.lemmas.List.{take_more}
use Rattle.turn_desk_event.specs.declared.answer.Answer.{Answer}
use Rattle.std.specs.declared.net.socket_addr.SocketAddr.{SocketAddr}
use Rattle.turn_client_proto.specs.Recv.ClientState.{ClientState, Leaves}
use Rattle.turn_desk_core.specs.State.{State}
use Rattle.turn_desk_event.specs.declared.event.ClientCall.{ClientCall}
use Rattle.turn_desk_event.specs.declared.event.Event.{Event}
use Rattle.turn_desk_event.specs.declared.event.Event.TheVariants.{Call, Draw, ToClient}
use Rattle.turn_desk_world.specs.Calls.{IsCallReported, IsTransmittedAs, IsFed}
use Rattle.turn_desk_world.specs.Model.{World}
use Rattle.turn_desk_world.specs.Runs.{IsAtClient, IsRun, IsStep}

pub run_joined : (first second : List (Event × Answer)) (w v u : World) → IsRun w first v → IsRun v second u → IsRun w (first ++ second) u
unfolding IsRun
run_joined [] second w v u one two = subst (λ (x : World). IsRun x second u) one two
run_joined (pair ∷ first) second w v u one two = (one.0, one.1, run_joined first second one.0 v u one.2 two)

pub run_parted : (first second : List (Event × Answer)) (w u : World) → IsRun w (first ++ second) u → (v : World) × IsRun w first v × IsRun v second u
unfolding IsRun
run_parted [] second w u run = (w, refl, run)
run_parted (pair ∷ first) second w u run = let rest = run_parted first second run.0 u run.2 in (rest.0, (run.0, run.1, rest.1), rest.2)

zip_joined : (es fs : List Event) (ans bns : List Answer) → length ans ≡ length es → zip (es ++ fs) (ans ++ bns) ≡ zip es ans ++ zip fs bns
zip_joined [] fs [] bns same = refl
zip_joined [] fs (a ∷ ans) bns same = absurd (Prim.cc same)
zip_joined (e ∷ es) fs [] bns same = absurd (Prim.cc same)
zip_joined (e ∷ es) fs (a ∷ ans) bns same = ap (λ l. (e, a) ∷ l) (zip_joined es fs ans bns (Prim.cc same))

-- A run can be extended by one event.
pub run_more : (es : List Event) (ans : List Answer) (w v u : World) (e : Event) (a : Answer) → length ans ≡ length es → IsRun w (zip es ans) v → IsStep e v a u → IsRun w (zip (es ++ e ∷ []) (ans ++ a ∷ [])) u
unfolding IsRun
run_more es ans w v u e a same run step =
    subst (λ l. IsRun w l u) (sym (zip_joined es (e ∷ []) ans (a ∷ []) same)) (run_joined (zip es ans) ((e, a) ∷ []) w v u run (u, step, refl))

-- What holds of each possible result holds of the one that was returned.
pub stepped : {A E : Type 0} (P : A → Type 0) (r : Result A E) (a : A) → r ≡ Ok a → IfOk r P → P a
stepped P (Ok b) a is holds = subst P (Prim.cc is) holds
stepped P (Err e) a is holds = absurd (Prim.cc is)

length_more : {X : Type 0} (xs : List X) (x : X) → length (xs ++ x ∷ []) ≡ length xs + 1
length_more [] x = refl
length_more (y ∷ xs) x = omega (arith, length_more xs x)

-- A run of the first events of a slice can be extended by the next event.
pub run_next : (events : List Event) (i : ℕ) (d : Event) (ans more : List Answer) (w v u : World) (a : Answer) → i < length events → more ≡ ans ++ a ∷ []
    → length ans ≡ length (take i events) → IsRun w (zip (take i events) ans) v → IsStep (get_or events i d) v a u
    → (length more ≡ length (take (i + 1) events)) × IsRun w (zip (take (i + 1) events) more) u
run_next events i d ans more w v u a inside is same run step =
    let taken = take_more events i d inside in (
      ap (λ (l : List Answer). length l) is ∙ length_more ans a ∙ ap (λ n. n + 1) same ∙ sym (length_more (take i events) (get_or events i d)) ∙ sym (ap (λ (l : List Event). length l) taken),
      subst (λ (l : List Answer). IsRun w (zip (take (i + 1) events) l) u) (sym is)
          (subst (λ (l : List Event). IsRun w (zip l (ans ++ a ∷ [])) u) (sym taken) (run_more (take i events) ans w v u (get_or events i d) a same run step)),
    )

-- A property of a result implies another one.
on_answer : {E : Type 0} (P Q : Answer → Type 0) (r : Result Answer E) → ((a : Answer) → P a → Q a) → IfOk r P → IfOk r Q
on_answer P Q (Ok a) f is = f a is
on_answer P Q (Err e) f is = tt

-- An event for the client, which changes nothing but the client.
module _ {E : Type 0} (desk : State) (client new : Option ClientState) (failed : Bool) (result : Result Answer E) where
  abbrev before : World
  before = record { desk = desk; client = client; is_failed = failed }

  abbrev after : World
  after = record { desk = desk; client = new; is_failed = failed }

  pub called : (call : ClientCall) (now : ℕ) → IfOk result (λ a. IsAtClient now (λ p q. IsCallReported call a p now q) client a new)
      → IfOk result (λ a. IsStep (Call call now) before a after)
  called call now is = on_answer _ _ result (λ a h. (h, refl)) is

  pub drew : (now : ℕ) → IfOk result (λ a. IsAtClient now (Leaves (λ p q. IsTransmittedAs a p now q)) client a new) → IfOk result (λ a. IsStep (Draw now) before a after)
  drew now is = on_answer _ _ result (λ a h. (h, refl)) is

  pub fed : (bytes : Vec ℕ Global) (from to : SocketAddr) (now : ℕ) → IfOk result (λ a. IsAtClient now (λ p q. IsFed a p bytes.items from to now q) client a new)
      → IfOk result (λ a. IsStep (ToClient bytes from to now) before a after)
  fed bytes from to now is = on_answer _ _ result (λ a h. (h, refl)) is
