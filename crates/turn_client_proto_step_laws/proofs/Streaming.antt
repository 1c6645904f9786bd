-- Bytes that come over the socket of a connection, are buffered, or are delivered, are steps of a run (RFC
-- 6062, sections 4.3 and 4.5).
use Rattle.std.proofs.Common.{◌≡◌, ℕ, Bool, true, List, [], ◌∷◌, Option, Some, None, refl, sym, ap, subst, ◌⊎◌, inl, inr}
use Rattle.std.proofs.lemmas.Bool.{cases_Bool}
use Rattle.std.specs.Prelude.{not, length, is_none, ◌&&◌, ◌==◌}
use Rattle.std.specs.declared.net.socket_addr.SocketAddr.{SocketAddr}
use Rattle.turn_client_proto_timers.specs.Allocation.Changes.{change_first}
use Rattle.turn_client_proto_recv.specs.TurnTypesFrame.Streams.{Stream, alive}
use Rattle.turn_client_proto_timers.specs.Peers.Channel.Numbers.{AreDistinct}
use Rattle.turn_client_proto_timers.specs.Connection.Sockets.{has_from, is_from}
use Rattle.turn_client_proto_timers.specs.Connection.Streams.{emptied, exchanged, first_raw, from, has_raw, is_any_raw, with_stream}
use Rattle.turn_client_proto_timers.specs.Core.declared.protocol.Protocol.{Protocol}
use Rattle.turn_client_proto_timers.specs.TurnRuns.Members.{IsIn}
use Rattle.turn_client_proto_timers.specs.TurnRuns.Messages as run
use Rattle.turn_client_proto_timers.specs.TurnRuns.Steps.{IsDelivered}
use Rattle.turn_client_proto_step_laws.specs.ClientWords.{Has, HasItself, HasPermission, HasChannel, HasConnection, IsStored, client_words}
use Rattle.turn_client_proto_step_laws.specs.Held.{Allocation, Binding, Connection}
use Rattle.turn_client_proto_step_laws.specs.RunClient.{Client, parts_of}
use Rattle.turn_client_proto_step_laws.specs.RunSteps.{IsPassingOn, IsRunStep, call_of}
use Rattle.turn_client_proto_step_laws.specs.Sound.{IsSound}
use Rattle.turn_client_proto_step_laws.proofs.Changing.{AreChanging, IsFirst, IsTurned, allocations_changing, changing_orderly, first_changing, first_is, held_as, none_bound, none_rebound, one_changing}
use Rattle.turn_client_proto_step_laws.proofs.Ending.{still, still_can}
use Rattle.turn_client_proto_step_laws.proofs.Giving.{alone}
use Rattle.turn_client_proto_step_laws.proofs.Lessening.{same_first_distinct}
use Rattle.turn_client_proto_step_laws.proofs.Lists.{found_in, found_passes}
use Rattle.turn_client_proto_step_laws.proofs.Orderly.{until_map}
use Rattle.turn_client_proto_step_laws.proofs.Plain.{counts_none, nothing_transmitted, quiet, run_step}
use Rattle.turn_client_proto_step_laws.proofs.SameSockets.{same_address}
use Rattle.turn_client_proto_step_laws.proofs.Showing.{gives_step}

-- ---- what is stored of a stream changes

-- The first connection of an allocation that passes buffers this.
abbrev keeping : (Connection → Bool) → Stream → Allocation → Allocation
keeping test stream a = record a { connections = change_first test (with_stream stream) a.connections }

module _ (passes : Allocation → Bool) (test : Connection → Bool) (stream : Stream) where
  turned : (c : Connection) → IsTurned none_bound none_rebound c (with_stream stream c)
  turned c = record { here_is = refl; peer_is = refl; number_is = refl; is_bound = λ e. inl e; requested = λ b e. inl e }

  keeping_changes : (all : List Allocation) → AreChanging none_bound none_rebound all (change_first passes (keeping test stream) all)
  keeping_changes all = first_changing none_bound none_rebound passes (keeping test stream) all (λ a found. one_changing none_bound none_rebound test (with_stream stream) a (λ c there. turned c))

  keeping_step : (c : Client) → IsSound c → IsRunStep c [] None [] (record c.core { allocations = change_first passes (keeping test stream) c.core.allocations })
  keeping_step c sound =
      let left : List Allocation = change_first passes (keeping test stream) c.core.allocations in
      let after : Protocol = record c.core { allocations = left } in
      let are : AreChanging none_bound none_rebound c.core.allocations left = keeping_changes c.core.allocations in
      let distinct : AreDistinct left = same_first_distinct passes (keeping test stream) (λ a. (refl, refl)) c.core.allocations sound.orderly.distinct in
      run_step [] [] None [] c c.transmitted after
      (quiet None [] c c.transmitted after (counts_none c after refl) (λ realm h. inl h) (allocations_changing [] none_rebound (parts_of c.core) left are (λ k b h. absurd h)) (nothing_transmitted [] c) refl)
      (changing_orderly none_bound none_rebound (parts_of c.core) left are (λ k b h. absurd h) distinct sound.orderly)
      (until_map c.core.phase (still_can c after refl refl refl refl) sound.can_ask)

-- ---- what is held stays

-- An element stays, or is changed.
stays_in : {X : Type 0} (p : X → Bool) (f : X → X) (x : X) (xs : List X) → IsIn x xs → IsIn x (change_first p f xs) ⊎ IsIn (f x) (change_first p f xs)
stays_in p f x [] h = absurd h
stays_in {X = X} p f x (y ∷ ys) h = elim (cases_Bool (p y)) [
  | inl is ↦
      let here : change_first p f (y ∷ ys) ≡ f y ∷ ys = rw is refl in
      elim h [
        | inl same ↦ inr (subst (λ (l : List X). IsIn (f x) l) (sym here) (inl (ap f same)))
        | inr later ↦ inl (subst (λ (l : List X). IsIn x l) (sym here) (inr later))
      ]
  | inr differs ↦
      let here : change_first p f (y ∷ ys) ≡ y ∷ change_first p f ys = rw differs refl in
      elim h [
        | inl same ↦ inl (subst (λ (l : List X). IsIn x l) (sym here) (inl same))
        | inr later ↦ elim (stays_in p f x ys later) [
          | inl old ↦ inl (subst (λ (l : List X). IsIn x l) (sym here) (inr old))
          | inr new ↦ inr (subst (λ (l : List X). IsIn (f x) l) (sym here) (inr new))
        ]
      ]
]

module _ (passes : Allocation → Bool) (test : Connection → Bool) (stream : Stream) where
  has_after : (a : Allocation) (h : run.Held) → Has a h → Has (keeping test stream a) h
  has_after a h HasItself = HasItself
  has_after a h (HasPermission p listed) = HasPermission p listed
  has_after a h (HasChannel c listed) = HasChannel c listed
  has_after a h (HasConnection c listed bound) = elim (stays_in test (with_stream stream) c a.connections listed) [
    | inl same ↦ HasConnection c same bound
    | inr changed ↦ HasConnection (with_stream stream c) changed bound
  ]

  stored_after : (all : List Allocation) (h : run.Held) → IsStored all h → IsStored (change_first passes (keeping test stream) all) h
  stored_after all h k = elim (stays_in passes (keeping test stream) k.allocation all k.listed) [
    | inl same ↦ record { allocation = k.allocation; listed = same; has = k.has }
    | inr changed ↦ record { allocation = keeping test stream k.allocation; listed = changed; has = has_after k.allocation h k.has }
  ]

-- ---- the two calls

pub exchange_step : (c : Client) (here : SocketAddr) (stream : Stream) → IsSound c → IsRunStep c [] None [] (record c.core { allocations = exchanged here stream c.core.allocations })
exchange_step c here stream sound = keeping_step (has_from here) (is_from here) stream c sound

pub emptying_step : (c : Client) → IsSound c → IsRunStep c [] None [] (record c.core { allocations = emptied c.core.allocations })
emptying_step c sound = keeping_step is_any_raw has_raw (alive []) c sound

-- ---- bytes are handed over

-- The connection that is found is held, if it is bound.
found_stored : (passes : Allocation → Bool) (test : Connection → Bool) (all : List Allocation) (k : Connection) → IsFirst passes test all k → k.awaited ≡ None → IsStored all (held_as k)
found_stored passes test all k is bound = record {
  allocation = is.allocation;
  listed = found_in passes all is.allocation is.found;
  has = HasConnection k (found_in test is.allocation.connections k is.at) bound;
}

pub from_first : (here : SocketAddr) (all : List Allocation) (k : Connection) → from here all ≡ Some k → IsFirst (has_from here) (is_from here) all k
from_first here all k is = first_is (has_from here) (is_from here) all k is

pub raw_first : (all : List Allocation) (k : Connection) → first_raw all ≡ Some k → IsFirst is_any_raw has_raw all k
raw_first all k is = first_is is_any_raw has_raw all k is

-- The connection has the own address that was looked for.
pub from_here : (here : SocketAddr) (all : List Allocation) (k : Connection) → from here all ≡ Some k → k.here ≡ here
from_here here all k is =
    let first = from_first here all k is in
    same_address k.here here (found_passes (is_from here) first.allocation.connections k first.at)

pub from_stored : (here : SocketAddr) (all : List Allocation) (k : Connection) → from here all ≡ Some k → k.awaited ≡ None → IsStored all (held_as k)
from_stored here all k is bound = found_stored (has_from here) (is_from here) all k (from_first here all k is) bound

-- A connection with buffered bytes of its peer is bound.
raw_is_bound : (awaited : Option Binding) (b : Bool) → (is_none awaited && b) ≡ true → awaited ≡ None
raw_is_bound None b h = refl
raw_is_bound (Some x) b h = absurd (Prim.cc h)

pub raw_bound : (all : List Allocation) (k : Connection) → first_raw all ≡ Some k → k.awaited ≡ None
raw_bound all k is =
    let first = raw_first all k is in
    raw_is_bound k.awaited (not (length k.stream.stored == 0)) (found_passes has_raw first.allocation.connections k first.at)

pub raw_stored : (all : List Allocation) (k : Connection) → first_raw all ≡ Some k → IsStored all (held_as k)
raw_stored all k is = found_stored is_any_raw has_raw all k (raw_first all k is) (raw_bound all k is)

-- Bytes of a connection that the client has are delivered in a step in which nothing was received.
pub passing_step : (c : Client) (core : Protocol) (k : Connection) (bytes : List ℕ) → IsRunStep c [] None [] core → IsStored core.allocations (held_as k) → IsPassingOn c (run.FromConnection k.here k.peer bytes ∷ []) core
passing_step c core k bytes quiet stored =
    let reported = run.FromConnection k.here k.peer bytes in
    let call = call_of c [] None [] quiet.after in
    let named : (h : run.Held) × run.NamesHeld reported h × IsStored quiet.after.core.allocations h =
    (held_as k, (k.connection, refl), subst (λ (p : Protocol). IsStored p.allocations (held_as k)) (sym quiet.core_is) stored) in
    record {
      after = quiet.after;
      core_is = quiet.core_is;
      waits = quiet.waits;
      step = gives_step client_words call (reported ∷ [])
          (alone (IsDelivered client_words call) reported tt)
          (alone (λ p. (h : run.Held) × run.NamesHeld p h × IsStored quiet.after.core.allocations h) reported named) quiet.step;
      sound = quiet.sound;
    }

-- Nothing changes, or the buffered bytes of a stream do.
pub passing_still : (c : Client) (k : Connection) (bytes : List ℕ) → IsSound c → IsStored c.core.allocations (held_as k) → IsPassingOn c (run.FromConnection k.here k.peer bytes ∷ []) c.core
passing_still c k bytes sound stored = passing_step c c.core k bytes (still c [] c.core sound refl) stored

pub passing_exchange : (c : Client) (here : SocketAddr) (stream : Stream) (k : Connection) (bytes : List ℕ) → IsSound c → IsStored c.core.allocations (held_as k)
    → IsPassingOn c (run.FromConnection k.here k.peer bytes ∷ []) (record c.core { allocations = exchanged here stream c.core.allocations })
passing_exchange c here stream k bytes sound stored =
    passing_step c (record c.core { allocations = exchanged here stream c.core.allocations }) k bytes (exchange_step c here stream sound)
    (stored_after (has_from here) (is_from here) stream c.core.allocations (held_as k) stored)

pub passing_emptying : (c : Client) (k : Connection) (bytes : List ℕ) → IsSound c → IsStored c.core.allocations (held_as k)
    → IsPassingOn c (run.FromConnection k.here k.peer bytes ∷ []) (record c.core { allocations = emptied c.core.allocations })
passing_emptying c k bytes sound stored =
    passing_step c (record c.core { allocations = emptied c.core.allocations }) k bytes (emptying_step c sound)
    (stored_after is_any_raw has_raw (alive []) c.core.allocations (held_as k) stored)
