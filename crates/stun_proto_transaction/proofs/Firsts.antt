-- The lowest transaction ID of a request that has ended, and of one of which a transmission is due.
use Rattle.std.proofs.Common.{◌≡◌, ℕ, ◌<◌, ◌≤◌, Bool, true, false, List, length, get_or, Some, refl, sym, ap, ◌∙◌, subst, inl, inr, arith}
use Rattle.std.specs.Prelude.{nat_le, ◌&&◌, ◌||◌, if◌then◌else◌}
use Rattle.std.proofs.lemmas.Bool.{cases_lt, le-leb, lt-leb}
use Rattle.std.proofs.lemmas.List.{get_or_default}
use Rattle.stun_types_message.specs.Base.Times.{greatest_time}
use Rattle.stun_proto_transaction.specs.Schedule.{end_at}
use Rattle.stun_proto_transaction.specs.Agents.{Transaction, ends_from, has_left, is_due, is_ended, is_over, next_slot, sends_from}
use Rattle.stun_proto_transaction.specs.StoredTimes as times
use Rattle.stun_proto_transaction.specs.StoredRequests.{IsFirstFrom, NoneDue, NoneEnded, NoneFrom, NonePasses, Requests}
use Rattle.stun_proto_transaction.specs.Least.{IsLeast}
use Rattle.stun_proto_transaction.specs.Sorted.{IsAt, IsStrictlySorted}
use Rattle.stun_proto_transaction.specs.Sound.{IsSound}
use Rattle.stun_proto_transaction.proofs.Edits.{get_or-mapped, length-mapped}
use Rattle.stun_proto_transaction.proofs.Maps.{present_at, present_map}
use Rattle.stun_proto_transaction.proofs.Sounds.{Entry, ends_of, sends_of}
use Rattle.stun_proto_transaction.proofs.Views.{got, visible}

-- ---- what the stored times say

not_due : (tcp : Bool) (now : ℕ) (t : Transaction) → now < sends_from tcp t → is_due tcp now t ≡ false
not_due tcp now t later = elim (has_left tcp t) as (λ b. now < (if b then next_slot t else greatest_time) → (b && nat_le (next_slot t) now) ≡ false) [
  | true ↦ λ before. lt-leb (next_slot t) now before
  | false ↦ λ before. refl
] later

not_ended : (now : ℕ) (t : Transaction) → now < ends_from t → is_ended now t ≡ false
not_ended now t later = elim (is_over t.cancelled) as (λ b. now < (if b then 0 else end_at t.sent t.waits) → (b || nat_le (end_at t.sent t.waits) now) ≡ false) [
  | true ↦ λ before. absurd (omega (arith, before))
  | false ↦ λ before. lt-leb (end_at t.sent t.waits) now before
] later

has_ended : (now : ℕ) (t : Transaction) → ends_from t ≤ now → is_ended now t ≡ true
has_ended now t reached = elim (is_over t.cancelled) as (λ b. (if b then 0 else end_at t.sent t.waits) ≤ now → (b || nat_le (end_at t.sent t.waits) now) ≡ true) [
  | true ↦ λ before. refl
  | false ↦ λ before. le-leb (end_at t.sent t.waits) now before
] reached

-- The stored times, index by index.
module _ (tcp : Bool) (es : List Entry) (sends ends : List ℕ) (sound : IsSound tcp es sends ends) where
  pub sends_at : (j : ℕ) (d : Entry) → j < length es → get_or sends j 0 ≡ sends_from tcp (get_or es j d).1
  sends_at j d less = ap (λ l. get_or l j 0) sound.sends_stored ∙ get_or-mapped (sends_of tcp) es j d 0 less

  pub ends_at : (j : ℕ) (d : Entry) → j < length es → get_or ends j 0 ≡ ends_from (get_or es j d).1
  ends_at j d less = ap (λ l. get_or l j 0) sound.ends_stored ∙ get_or-mapped ends_of es j d 0 less

  pub sends_length : length sends ≡ length es
  sends_length = ap length sound.sends_stored ∙ length-mapped (sends_of tcp) es

  pub ends_length : length ends ≡ length es
  ends_length = ap length sound.ends_stored ∙ length-mapped ends_of es

  pub not_due_at : (now j : ℕ) (d : Entry) → j < length es → now < get_or sends j 0 → is_due tcp now (get_or es j d).1 ≡ false
  not_due_at now j d less later = not_due tcp now (get_or es j d).1 (let is = sends_at j d less in omega (arith, is, later))

  pub not_ended_at : (now j : ℕ) (d : Entry) → j < length es → now < get_or ends j 0 → is_ended now (get_or es j d).1 ≡ false
  not_ended_at now j d less later = not_ended now (get_or es j d).1 (let is = ends_at j d less in omega (arith, is, later))

  pub has_ended_at : (now j : ℕ) (d : Entry) → j < length es → get_or ends j 0 ≤ now → is_ended now (get_or es j d).1 ≡ true
  has_ended_at now j d less reached = has_ended now (get_or es j d).1 (let is = ends_at j d less in omega (arith, is, reached))

-- ---- in the map

module _ (tcp : Bool) (es : List Entry) (old : Requests) (view_is : visible tcp es ≡ old) (sorted : IsStrictlySorted es) (test : Transaction → Bool) where
  pub none_passes : ((j : ℕ) (d : Entry) → j < length es → test (get_or es j d).1 ≡ false) → NonePasses test old.by_number
  none_passes none number t there =
      let found = present_at es number t (sym (got tcp es old view_is number) ∙ there) in
      ap (λ (e : Entry). test e.1) (sym (found.2 (number, t))) ∙ none found.0 (number, t) found.1

  pub first_least : (position : ℕ) (e : Entry) → position < length es → e ≡ get_or es position e → test e.1 ≡ true → ((j : ℕ) (d : Entry) → j < position → test (get_or es j d).1 ≡ false) → IsLeast test old.by_number e.0 e.1
  first_least position e within read passes before =
      let at : IsAt es e.0 position = record { within = within; same = λ d. ap (λ (x : Entry). x.0) (get_or_default es position d e within) ∙ ap (λ (x : Entry). x.0) (sym read) } in
      record {
        present = got tcp es old view_is e.0 ∙ present_map es e.0 position e at sorted ∙ ap (λ (x : Entry). Some x.1) (sym read);
        passes = passes;
        least = λ other another there passes_too.
            let found = present_at es other another (sym (got tcp es old view_is other) ∙ there) in
            let own = ap (λ (x : Entry). x.0) (found.2 e) in
            let here = ap (λ (x : Entry). x.0) read in
            elim (cases_lt found.0 position) [
              | inl below ↦ absurd (Prim.cc (sym passes_too ∙ ap (λ (x : Entry). test x.1) (sym (found.2 e)) ∙ before found.0 e below))
              | inr not_below ↦ elim (cases_lt position found.0) [
                | inl above ↦ (let more = sorted position found.0 e above found.1 in omega (arith, more, own, here))
                | inr not_above ↦ (let same = ap (λ n. (get_or es n e).0) (let is : found.0 ≡ position = omega (arith, not_below, not_above) in is) in omega (arith, same, own, here))
              ]
            ];
      }

-- ---- the result of the call

due_as : (tcp : Bool) (es : List Entry) (old : Requests) → visible tcp es ≡ old → tcp ≡ old.is_tcp
due_as tcp es old view_is = ap (λ (r : Requests). r.is_tcp) view_is

module _ (tcp : Bool) (es : List Entry) (sends ends : List ℕ) (sound : IsSound tcp es sends ends) (old : Requests) (view_is : visible tcp es ≡ old) (now : ℕ) where
  not_due_from : (from : ℕ) → times.IsFirst now sends from → NoneFrom (is_due tcp now) es from → (j : ℕ) (d : Entry) → j < length es → is_due tcp now (get_or es j d).1 ≡ false
  not_due_from from first none j d less = elim (cases_lt j from) [
    | inl below ↦ not_due_at tcp es sends ends sound now j d less (first.first j below)
    | inr above ↦ none j d above less
  ]

  pub none_due : times.AllLater now sends → NoneDue old now
  none_due later = subst (λ b. NonePasses (is_due b now) old.by_number) (due_as tcp es old view_is)
      (none_passes tcp es old view_is sound.sorted (is_due tcp now) (λ j d less. not_due_at tcp es sends ends sound now j d less (later j (let same = sends_length tcp es sends ends sound in omega (arith, less, same)))))

  pub none_due_from : (from : ℕ) → times.IsFirst now sends from → NoneFrom (is_due tcp now) es from → NoneDue old now
  none_due_from from first none = subst (λ b. NonePasses (is_due b now) old.by_number) (due_as tcp es old view_is)
      (none_passes tcp es old view_is sound.sorted (is_due tcp now) (not_due_from from first none))

  pub first_due : (from position : ℕ) (e : Entry) → times.IsFirst now sends from → IsFirstFrom (is_due tcp now) es from position → e ≡ get_or es position e → IsLeast (is_due old.is_tcp now) old.by_number e.0 e.1
  first_due from position e first found read = subst (λ b. IsLeast (is_due b now) old.by_number e.0 e.1) (due_as tcp es old view_is)
      (first_least tcp es old view_is sound.sorted (is_due tcp now) position e found.within read (ap (λ (x : Entry). is_due tcp now x.1) read ∙ found.passes e)
      (λ j d less. elim (cases_lt j from) [
        | inl below ↦ not_due_at tcp es sends ends sound now j d (let w = found.within in omega (arith, less, w)) (first.first j below)
        | inr above ↦ found.first j d above less
      ]))

  pub none_ended : times.AllLater now ends → NoneEnded old now
  none_ended later = none_passes tcp es old view_is sound.sorted (is_ended now) (λ j d less. not_ended_at tcp es sends ends sound now j d less (later j (let same = ends_length tcp es sends ends sound in omega (arith, less, same))))

  pub first_ended : (position : ℕ) (e : Entry) → times.IsFirst now ends position → e ≡ get_or es position e → IsLeast (is_ended now) old.by_number e.0 e.1
  first_ended position e first read =
      let same = ends_length tcp es sends ends sound in
      let within : position < length es = (let w = first.within in omega (arith, w, same)) in
      first_least tcp es old view_is sound.sorted (is_ended now) position e within read
      (ap (λ (x : Entry). is_ended now x.1) read ∙ has_ended_at tcp es sends ends sound now position e within first.reached)
      (λ j d less. not_ended_at tcp es sends ends sound now j d (omega (arith, less, within)) (first.first j less))
