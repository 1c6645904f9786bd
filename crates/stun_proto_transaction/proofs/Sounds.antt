-- The invariant of the table of requests after each change.
use Rattle.std.proofs.Common.{◌≡◌, ℕ, ◌<◌, ◌≤◌, Bool, List, length, get_or, set, sym, ap, ◌∙◌, subst}
use Rattle.std.specs.List.{insert, remove}
use Rattle.stun_proto_transaction.specs.Agents.{Transaction, ends_from, sends_from}
use Rattle.stun_proto_transaction.specs.Sorted.{IsAt, IsGap}
use Rattle.stun_proto_transaction.specs.Sound.{IsSound}
use Rattle.stun_proto_transaction.proofs.Edits.{map-inserted, map-removed, map-written, remove-inserted, sorted_inserted, sorted_removed, sorted_written}

abbrev pub Entry : Type 0
Entry = ℕ × Transaction

-- The time stored for an entry's next transmission.
abbrev pub sends_of : Bool → Entry → ℕ
sends_of tcp e = sends_from tcp e.1

abbrev pub ends_of : Entry → ℕ
ends_of e = ends_from e.1

module _ (tcp : Bool) (es : List Entry) (sends ends new_sends new_ends : List ℕ) (sound : IsSound tcp es sends ends) where
  pub sound_inserted : (number position : ℕ) (t : Transaction) → IsGap es number position → new_sends ≡ insert sends position (sends_from tcp t) → new_ends ≡ insert ends position (ends_from t) → IsSound tcp (insert es position (number, t)) new_sends new_ends
  sound_inserted number position t gap of_sends of_ends = record {
    sorted = sorted_inserted es number position t gap sound.sorted;
    sends_stored = of_sends ∙ ap (λ l. insert l position (sends_from tcp t)) sound.sends_stored ∙ sym (map-inserted (sends_of tcp) es position (number, t));
    ends_stored = of_ends ∙ ap (λ l. insert l position (ends_from t)) sound.ends_stored ∙ sym (map-inserted ends_of es position (number, t));
  }

  pub sound_removed : (position : ℕ) → position < length es → new_sends ≡ remove sends position → new_ends ≡ remove ends position → IsSound tcp (remove es position) new_sends new_ends
  sound_removed position there of_sends of_ends = record {
    sorted = sorted_removed es position there sound.sorted;
    sends_stored = of_sends ∙ ap (λ l. remove l position) sound.sends_stored ∙ sym (map-removed (sends_of tcp) es position);
    ends_stored = of_ends ∙ ap (λ l. remove l position) sound.ends_stored ∙ sym (map-removed ends_of es position);
  }

  pub sound_written : (number position : ℕ) (t : Transaction) → IsAt es number position → new_sends ≡ set sends position (sends_from tcp t) → new_ends ≡ set ends position (ends_from t) → IsSound tcp (set es position (number, t)) new_sends new_ends
  sound_written number position t at of_sends of_ends = record {
    sorted = sorted_written es number position t at sound.sorted;
    sends_stored = of_sends ∙ ap (λ l. set l position (sends_from tcp t)) sound.sends_stored ∙ sym (map-written (sends_of tcp) es position (number, t));
    ends_stored = of_ends ∙ ap (λ l. set l position (ends_from t)) sound.ends_stored ∙ sym (map-written ends_of es position (number, t));
  }

  -- The invariant holds after an insertion is undone.
  pub sound_undone : (number position : ℕ) (t : Transaction) → position ≤ length es → new_sends ≡ sends → new_ends ≡ ends → IsSound tcp (remove (insert es position (number, t)) position) new_sends new_ends
  sound_undone number position t there of_sends of_ends =
      let same = remove-inserted es position (number, t) there in
      subst (λ l. IsSound tcp l new_sends new_ends) (sym same) (record { sorted = sound.sorted; sends_stored = of_sends ∙ sound.sends_stored; ends_stored = of_ends ∙ sound.ends_stored })

-- The entry that is read at the index of a transaction ID has this transaction ID.
pub own_number : (es : List Entry) (number position : ℕ) (e : Entry) → IsAt es number position → e ≡ get_or es position e → e.0 ≡ number
own_number es number position e at read = ap (λ (x : Entry). x.0) read ∙ at.same e

-- The invariant holds after the value of the entry that is read at an index is replaced.
pub sound_by : (tcp : Bool) (es : List Entry) (sends ends new_sends new_ends : List ℕ) (number position send end : ℕ) (e : Entry) (t : Transaction) → IsSound tcp es sends ends → IsAt es number position → e ≡ get_or es position e
    → new_sends ≡ set sends position send → new_ends ≡ set ends position end → send ≡ sends_from tcp t → end ≡ ends_from t → IsSound tcp (set es position (e.0, t)) new_sends new_ends
sound_by tcp es sends ends new_sends new_ends number position send end e t sound at read of_sends of_ends send_is end_is =
    subst (λ n. IsSound tcp (set es position (n, t)) new_sends new_ends) (sym (own_number es number position e at read))
    (sound_written tcp es sends ends new_sends new_ends sound number position t at (of_sends ∙ ap (set sends position) send_is) (of_ends ∙ ap (set ends position) end_is))
