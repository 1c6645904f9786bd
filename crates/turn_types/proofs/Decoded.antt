-- What a reader decodes from two messages with the same visible attributes.
use Rattle.std.proofs.Common.{◌≡◌, ◌≢◌, ℕ, Bool, true, eqb, List, [], ◌∷◌, refl, sym, ap, ◌∙◌, arith, inl, inr}
use Rattle.std.specs.Prelude.{not}
use Rattle.std.specs.List.{filter, filter_map, find}
use Rattle.std.proofs.lemmas.Bool.{cases_Bool, eqb-true}
use Rattle.turn_types_attributes.specs.StunTypesWire.Attributes.{Attr}
use Rattle.turn_types_attributes.specs.StunTypesWire.Grammar.{number_at, visible}
use Rattle.turn_types_attributes.specs.StunTypesWire.Registry.{fingerprint_kind}
use Rattle.stun_types_message.specs.Same.{ShowSame, without_fingerprint}
use Rattle.turn_types_attributes.specs.TurnRegistry.{channel_number_kind, connection_id_kind, lifetime_kind, requested_transport_kind, xor_peer_address_kind, xor_relayed_address_kind}
use Rattle.turn_types_peer.specs.TurnShows.{DecodeSame, each_visible, first_visible, address_in, addresses_visible, number_in}

abbrev is_of : ℕ → Attr → Bool
is_of kind a = eqb a.kind kind

abbrev is_stored : Attr → Bool
is_stored a = not (eqb a.kind fingerprint_kind)

-- Removing FINGERPRINT keeps attributes of every other type.
stored : (kind : ℕ) (a : Attr) → kind ≢ fingerprint_kind → is_of kind a ≡ true → is_stored a ≡ true
stored kind a other is =
    elim (cases_Bool (eqb a.kind fingerprint_kind)) [
      | inl marks ↦ absurd (other (sym (eqb-true a.kind kind is) ∙ eqb-true a.kind fingerprint_kind marks))
      | inr differs ↦ rw differs refl
    ]

filter_stored : (kind : ℕ) → kind ≢ fingerprint_kind → (all : List Attr) → filter (is_of kind) (without_fingerprint all) ≡ filter (is_of kind) all
filter_stored kind other [] = refl
filter_stored kind other (a ∷ all) =
    let rest = filter_stored kind other all in
    elim (cases_Bool (is_of kind a)) [
      | inl is ↦ let stays = stored kind a other is in rw (stays, is, rest) refl
      | inr differs ↦ elim (cases_Bool (is_stored a)) [
        | inl stays ↦ rw (stays, differs, rest) refl
        | inr goes ↦ rw (goes, differs, rest) refl
      ]
    ]

find_stored : (kind : ℕ) → kind ≢ fingerprint_kind → (all : List Attr) → find (is_of kind) (without_fingerprint all) ≡ find (is_of kind) all
find_stored kind other [] = refl
find_stored kind other (a ∷ all) =
    let rest = find_stored kind other all in
    elim (cases_Bool (is_of kind a)) [
      | inl is ↦ let stays = stored kind a other is in rw (stays, is) refl
      | inr differs ↦ elim (cases_Bool (is_stored a)) [
        | inl stays ↦ rw (stays, differs, rest) refl
        | inr goes ↦ rw (goes, differs, rest) refl
      ]
    ]

pub same_each : (one other : List ℕ) (kind : ℕ) → ShowSame one other → kind ≢ fingerprint_kind → each_visible kind one ≡ each_visible kind other
same_each one other kind h differs =
    sym (filter_stored kind differs (visible one)) ∙ ap (filter (is_of kind)) h.shows ∙ filter_stored kind differs (visible other)

pub same_first : (one other : List ℕ) (kind : ℕ) → ShowSame one other → kind ≢ fingerprint_kind → first_visible kind one ≡ first_visible kind other
same_first one other kind h differs =
    sym (find_stored kind differs (visible one)) ∙ ap (find (is_of kind)) h.shows ∙ find_stored kind differs (visible other)

same_addresses : (one other : List ℕ) (kind : ℕ) → ShowSame one other → kind ≢ fingerprint_kind → addresses_visible kind one ≡ addresses_visible kind other
same_addresses one other kind h differs =
    ap (λ n. filter_map (address_in n) (each_visible kind one)) h.number
    ∙ ap (filter_map (address_in (number_at other))) (same_each one other kind h differs)

pub same_decoded : (one other : List ℕ) → ShowSame one other → DecodeSame one other
same_decoded one other h = record {
  peers = same_addresses one other xor_peer_address_kind h (λ e. absurd (omega (arith, e)));
  relayed = same_addresses one other xor_relayed_address_kind h (λ e. absurd (omega (arith, e)));
  channel = ap (number_in 2) (same_first one other channel_number_kind h (λ e. absurd (omega (arith, e))));
  connection = ap (number_in 4) (same_first one other connection_id_kind h (λ e. absurd (omega (arith, e))));
  lifetime = ap (number_in 4) (same_first one other lifetime_kind h (λ e. absurd (omega (arith, e))));
  transport = ap (number_in 1) (same_first one other requested_transport_kind h (λ e. absurd (omega (arith, e))));
}
