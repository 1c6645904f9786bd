-- A client whose connection with an own address buffers something else.
use Rattle.std.proofs.Common.{◌≡◌, Bool, true, false, List, [], ◌∷◌, Option, Some, None, refl, sym, ap, ◌∙◌, subst, inl, inr}
use Rattle.std.proofs.lemmas.Bool.{cases_Bool}
use Rattle.std.specs.List.{find}
use Rattle.std.specs.Option.{option_and_then}
use Rattle.std.specs.declared.net.socket_addr.SocketAddr.{SocketAddr}
use Rattle.turn_client_proto_recv.specs.TurnTypesFrame.Streams.{Stream, alive}
use Rattle.turn_client_proto_timers.specs.Allocation.Changes.{change_first}
use Rattle.turn_client_proto_timers.specs.Allocation.declared.allocation.Allocation.{Allocation}
use Rattle.turn_client_proto_timers.specs.Allocation.declared.connection.Connection.{Connection}
use Rattle.turn_client_proto_timers.specs.Connection.Sockets.{has_from, is_from}
use Rattle.turn_client_proto_timers.specs.Connection.Streams.{emptied, emptied_in, exchanged, exchanged_in, first_raw, from, from_in, has_raw, is_any_raw, raw_in, with_stream}
use Rattle.turn_client_proto_timers.specs.Core.declared.protocol.Protocol.{Protocol}
use Rattle.turn_client_proto_timers.specs.TurnRuns.Members.{IsIn}
use Rattle.turn_client_proto_recv.specs.SocketChunks.{with_stored}
use Rattle.turn_client_proto_step_laws.proofs.Lists.{any_passes, found_in, in_first, passes_one}
use Rattle.turn_client_proto_step_laws.proofs.SocketsLeft.{NoneRaw, none_raw, raw_none}
use Rattle.turn_client_proto_recv.proofs.Exchanging.{any_changed}

-- ---- the first that passes is changed

module _ {X : Type 0} (p : X → Bool) (f : X → X) where
  -- No element passes, or the one that does stays as it is: nothing changes.
  change_none : (xs : List X) → find p xs ≡ None → change_first p f xs ≡ xs
  change_none [] none = refl
  change_none (x ∷ xs) none = elim (cases_Bool (p x)) [
    | inl is ↦
        let found : find p (x ∷ xs) ≡ Some x = rw is refl in
        absurd (Prim.cc (sym found ∙ none))
    | inr not ↦
        let later : change_first p f (x ∷ xs) ≡ x ∷ change_first p f xs = rw not refl in
        let found : find p (x ∷ xs) ≡ find p xs = rw not refl in
        later ∙ ap (λ (l : List X). x ∷ l) (change_none xs (sym found ∙ none))
  ]

  change_same : (xs : List X) (y : X) → find p xs ≡ Some y → f y ≡ y → change_first p f xs ≡ xs
  change_same [] y found same = refl
  change_same (x ∷ xs) y found same = elim (cases_Bool (p x)) [
    | inl is ↦
        let here : change_first p f (x ∷ xs) ≡ f x ∷ xs = rw is refl in
        let at : find p (x ∷ xs) ≡ Some x = rw is refl in
        let one : x ≡ y = Prim.cc (sym at ∙ found) in
        here ∙ ap (λ (z : X). z ∷ xs) (ap f one ∙ same ∙ sym one)
    | inr not ↦
        let later : change_first p f (x ∷ xs) ≡ x ∷ change_first p f xs = rw not refl in
        let at : find p (x ∷ xs) ≡ find p xs = rw not refl in
        later ∙ ap (λ (l : List X). x ∷ l) (change_same xs y (sym at ∙ found) same)
  ]

  -- An element that is changed twice.
  change_twice : (g h : X → X) → ((x : X) → p x ≡ true → p (f x) ≡ true) → ((x : X) → g (f x) ≡ h x) → (xs : List X) → change_first p g (change_first p f xs) ≡ change_first p h xs
  change_twice g h keeps same [] = refl
  change_twice g h keeps same (x ∷ xs) = elim (cases_Bool (p x)) [
    | inl is ↦
        let here : change_first p f (x ∷ xs) ≡ f x ∷ xs = rw is refl in
        let again : change_first p g (f x ∷ xs) ≡ g (f x) ∷ xs = rw (keeps x is) refl in
        let once : change_first p h (x ∷ xs) ≡ h x ∷ xs = rw is refl in
        ap (change_first p g) here ∙ again ∙ ap (λ (z : X). z ∷ xs) (same x) ∙ sym once
    | inr not ↦
        let here : change_first p f (x ∷ xs) ≡ x ∷ change_first p f xs = rw not refl in
        let again : change_first p g (x ∷ change_first p f xs) ≡ x ∷ change_first p g (change_first p f xs) = rw not refl in
        let once : change_first p h (x ∷ xs) ≡ x ∷ change_first p h xs = rw not refl in
        ap (change_first p g) here ∙ again ∙ ap (λ (l : List X). x ∷ l) (change_twice g h keeps same xs) ∙ sym once
  ]

  -- Only the changed element passes another test then.
  module _ (q : X → Bool) (g h : X → X) (y : X) (passes : q (f y) ≡ true) (same : g (f y) ≡ h y) where
    only_found : (xs : List X) → find p xs ≡ Some y → ((x : X) → IsIn x xs → q x ≡ false) → find q (change_first p f xs) ≡ Some (f y)
    only_found [] found none = absurd (Prim.cc found)
    only_found (x ∷ xs) found none = elim (cases_Bool (p x)) [
      | inl is ↦
          let here : change_first p f (x ∷ xs) ≡ f x ∷ xs = rw is refl in
          let at : find p (x ∷ xs) ≡ Some x = rw is refl in
          let one : x ≡ y = Prim.cc (sym at ∙ found) in
          let first : find q (f y ∷ xs) ≡ Some (f y) = rw passes refl in
          ap (find q) (here ∙ ap (λ (z : X). f z ∷ xs) one) ∙ first
      | inr not ↦
          let here : change_first p f (x ∷ xs) ≡ x ∷ change_first p f xs = rw not refl in
          let at : find p (x ∷ xs) ≡ find p xs = rw not refl in
          let fails : q x ≡ false = none x (inl refl) in
          let later : find q (x ∷ change_first p f xs) ≡ find q (change_first p f xs) = rw fails refl in
          ap (find q) here ∙ later ∙ only_found xs (sym at ∙ found) (λ z there. none z (inr there))
    ]

    only_changed : (xs : List X) → find p xs ≡ Some y → ((x : X) → IsIn x xs → q x ≡ false) → change_first q g (change_first p f xs) ≡ change_first p h xs
    only_changed [] found none = absurd (Prim.cc found)
    only_changed (x ∷ xs) found none = elim (cases_Bool (p x)) [
      | inl is ↦
          let here : change_first p f (x ∷ xs) ≡ f x ∷ xs = rw is refl in
          let at : find p (x ∷ xs) ≡ Some x = rw is refl in
          let one : x ≡ y = Prim.cc (sym at ∙ found) in
          let first : change_first q g (f y ∷ xs) ≡ g (f y) ∷ xs = rw passes refl in
          let once : change_first p h (x ∷ xs) ≡ h x ∷ xs = rw is refl in
          ap (change_first q g) (here ∙ ap (λ (z : X). f z ∷ xs) one) ∙ first ∙ ap (λ (z : X). z ∷ xs) (same ∙ sym (ap h one)) ∙ sym once
      | inr not ↦
          let here : change_first p f (x ∷ xs) ≡ x ∷ change_first p f xs = rw not refl in
          let at : find p (x ∷ xs) ≡ find p xs = rw not refl in
          let fails : q x ≡ false = none x (inl refl) in
          let later : change_first q g (x ∷ change_first p f xs) ≡ x ∷ change_first q g (change_first p f xs) = rw fails refl in
          let once : change_first p h (x ∷ xs) ≡ x ∷ change_first p h xs = rw not refl in
          ap (change_first q g) here ∙ later ∙ ap (λ (l : List X). x ∷ l) (only_changed xs (sym at ∙ found) (λ z there. none z (inr there))) ∙ sym once
    ]

-- ---- what is stored is exchanged

module _ (here : SocketAddr) where
  still_has : (s : Stream) (a : Allocation) → has_from here a ≡ true → has_from here (exchanged_in here s a) ≡ true
  still_has s a is = any_changed (is_from here) (with_stream s) (λ c own. own) a.connections ∙ is

  twice_in : (s t : Stream) (a : Allocation) → exchanged_in here s (exchanged_in here t a) ≡ exchanged_in here s a
  twice_in s t a =
      ap (λ (l : List Connection). record a { connections = l }) (change_twice (is_from here) (with_stream t) (with_stream s) (with_stream s) (λ c own. own) (λ c. refl) a.connections)

  -- What was buffered before is overwritten.
  pub stored_twice : (s t : Stream) (p : Protocol) → with_stored here s (with_stored here t p) ≡ with_stored here s p
  stored_twice s t p =
      ap (λ (l : List Allocation). record p { allocations = l })
      (change_twice (has_from here) (exchanged_in here t) (exchanged_in here s) (exchanged_in here s) (still_has t) (twice_in s t) p.allocations)

  -- The stream that is buffered already.
  pub stored_same : (s : Stream) (p : Protocol) → ((k : Connection) → from here p.allocations ≡ Some k → k.stream ≡ s) → with_stored here s p ≡ p
  stored_same s p nothing = ap (λ (l : List Allocation). record p { allocations = l }) (by (find (has_from here) p.allocations) refl)
    where
      in_it : (a : Allocation) → find (has_from here) p.allocations ≡ Some a → (o : Option Connection) → find (is_from here) a.connections ≡ o → change_first (is_from here) (with_stream s) a.connections ≡ a.connections
      in_it a at None is = change_none (is_from here) (with_stream s) a.connections is
      in_it a at (Some c) is =
          let same : c.stream ≡ s = nothing c (ap (option_and_then (from_in here)) at ∙ is) in
          change_same (is_from here) (with_stream s) a.connections c is (ap (λ (x : Stream). with_stream x c) (sym same))

      by : (o : Option Allocation) → find (has_from here) p.allocations ≡ o → exchanged here s p.allocations ≡ p.allocations
      by None at = change_none (has_from here) (exchanged_in here s) p.allocations at
      by (Some a) at =
          change_same (has_from here) (exchanged_in here s) p.allocations a at
          (ap (λ (l : List Connection). record a { connections = l }) (in_it a at (find (is_from here) a.connections) refl))

  -- No bytes of a peer are buffered then, if none are of that connection.
  pub stored_none : (s : Stream) (p : Protocol) → first_raw p.allocations ≡ None → ((k : Connection) → from here p.allocations ≡ Some k → has_raw (with_stream s k) ≡ false) → first_raw (with_stored here s p).allocations ≡ None
  stored_none s p none quiet = raw_none (exchanged here s p.allocations) each
    where
      before : NoneRaw p.allocations
      before = none_raw p.allocations none

      each : NoneRaw (exchanged here s p.allocations)
      each a listed c there raw = elim (in_first (has_from here) (exchanged_in here s) a p.allocations listed) [
        | inl was ↦ before a was c there raw
        | inr changed ↦
            let old = changed.0 in
            let in_it : IsIn c (exchanged_in here s old).connections = subst (λ (x : Allocation). IsIn c x.connections) changed.2 there in
            elim (in_first (is_from here) (with_stream s) c old.connections in_it) [
              | inl was ↦ before old (found_in (has_from here) p.allocations old changed.1) c was raw
              | inr own ↦
                  let k = own.0 in
                  let is : from here p.allocations ≡ Some k = ap (option_and_then (from_in here)) changed.1 ∙ own.1 in
                  Prim.cc (sym (ap has_raw own.2 ∙ quiet k is) ∙ raw)
            ]
      ]

  -- If some are of that connection, they are the only ones, and once they are taken nothing is buffered of
  -- it.
  pub record IsOnlyRaw (s : Stream) (p : Protocol) (c : Connection) : Type 0 where
    pub found : first_raw (with_stored here s p).allocations ≡ Some (with_stream s c)
    pub empties : emptied (with_stored here s p).allocations ≡ (with_stored here (alive []) p).allocations

  pub only_raw : (s : Stream) (p : Protocol) (c : Connection) → first_raw p.allocations ≡ None → from here p.allocations ≡ Some c → has_raw (with_stream s c) ≡ true → IsOnlyRaw s p c
  only_raw s p c none is raw = by (find (has_from here) p.allocations) refl is
    where
      before : NoneRaw p.allocations
      before = none_raw p.allocations none

      fails : (a : Allocation) → IsIn a p.allocations → (k : Connection) → IsIn k a.connections → has_raw k ≡ false
      fails a listed k there = elim (cases_Bool (has_raw k)) [ inl some ↦ absurd (before a listed k there some) | inr rest ↦ rest ]

      fail : (a : Allocation) → IsIn a p.allocations → is_any_raw a ≡ false
      fail a listed = elim (cases_Bool (is_any_raw a)) [
        | inl some ↦ let one = passes_one has_raw a.connections some in absurd (before a listed one.one one.listed one.passes)
        | inr rest ↦ rest
      ]

      by : (o : Option Allocation) → find (has_from here) p.allocations ≡ o → option_and_then (from_in here) o ≡ Some c → IsOnlyRaw s p c
      by None at h = absurd (Prim.cc h)
      by (Some a) at h =
          let listed = found_in (has_from here) p.allocations a at in
          let found_c : find has_raw (exchanged_in here s a).connections ≡ Some (with_stream s c) =
          only_found (is_from here) (with_stream s) has_raw (with_stream (alive [])) (with_stream (alive [])) c raw refl a.connections h (fails a listed) in
          let emptied_a : emptied_in (exchanged_in here s a) ≡ exchanged_in here (alive []) a =
          ap (λ (l : List Connection). record a { connections = l })
          (only_changed (is_from here) (with_stream s) has_raw (with_stream (alive [])) (with_stream (alive [])) c raw refl a.connections h (fails a listed)) in
          let any : is_any_raw (exchanged_in here s a) ≡ true = any_passes has_raw (exchanged_in here s a).connections (with_stream s c) (found_in has_raw (exchanged_in here s a).connections (with_stream s c) found_c) raw in
          record {
            found = ap (option_and_then raw_in) (only_found (has_from here) (exchanged_in here s) is_any_raw emptied_in (exchanged_in here (alive [])) a any emptied_a p.allocations at fail) ∙ found_c;
            empties = only_changed (has_from here) (exchanged_in here s) is_any_raw emptied_in (exchanged_in here (alive [])) a any emptied_a p.allocations at fail;
          }
