-- A client decodes from a message what a run says of it.
use Rattle.std.specs.Prelude.{◌==◌, IsSome, cond, is_some}
use Rattle.std.proofs.Common.{◌≡◌, ℕ, Bool, true, false, if◌then◌else◌, List, [], ◌∷◌, Option, Some, None, refl, sym, ap, ◌∙◌}
use Rattle.std.proofs.lemmas.Bool.{eqb-true}
use Rattle.std.proofs.lemmas.List.Sums.{take_while-cons}
use Rattle.std.specs.List.{AllByRecursion, filter_map, find, take_while}
use Rattle.std.specs.Option.{option_and_then}
use Rattle.byteorder.specs.Endian.{big_number}
use Rattle.turn_client_proto_timers.specs.StunTypesWire.Attributes.{Attr}
use Rattle.turn_client_proto_timers.specs.StunTypesWire.Grammar.{number_at, visible}
use Rattle.turn_client_proto_timers.specs.StunTypesWrite.ValueReading.{value_refusal}
use Rattle.turn_client_proto_recv.specs.TurnTypesAttributes.TurnRegistry.{connection_id_kind, lifetime_kind, xor_relayed_address_kind}
use Rattle.turn_client_proto_timers.specs.TurnTypesPeer.TurnShows.{address_in, addresses_visible, each_visible, number_in, number_visible, unless_refused}
use Rattle.turn_client_proto_timers.specs.Messages.Reported.{connection_reported, lifetime_reported, relayed_reported}

-- ---- addresses

-- An option with a value tests as such.
some_there : {A : Type 0} (o : Option A) → IsSome o → is_some o ≡ true
some_there None h = absurd (Prim.cc h)
some_there (Some x) h = refl

-- If all elements pass, none is left out.
all_taken : (number : ℕ) (all : List Attr) → AllByRecursion (λ a. IsSome (address_in number a)) all → take_while (λ a. is_some (address_in number a)) all ≡ all
all_taken number [] each = refl
all_taken number (a ∷ all) each =
    let p : Attr → Bool = λ a. is_some (address_in number a) in
    take_while-cons p a all
    ∙ (ap (λ (b : Bool). cond b (a ∷ take_while p all) []) (some_there (address_in number a) each.0)
    ∙ ap (λ (l : List Attr). a ∷ l) (all_taken number all each.1))

pub relayed_alike : (bytes : List ℕ) → AllByRecursion (λ a. IsSome (address_in (number_at bytes) a)) (each_visible xor_relayed_address_kind bytes) → relayed_reported bytes ≡ addresses_visible xor_relayed_address_kind bytes
relayed_alike bytes each = ap (filter_map (address_in (number_at bytes))) (all_taken (number_at bytes) (each_visible xor_relayed_address_kind bytes) each)

-- ---- transaction IDs

-- The number in an attribute of this type, if it is well formed.
abbrev in_four : ℕ → Attr → Option ℕ
in_four kind a = unless_refused (value_refusal kind 4 4 a) (Some (big_number 4 a.value))

first_alike : (kind : ℕ) (all : List Attr) → option_and_then (in_four kind) (find (λ (a : Attr). a.kind == kind) all) ≡ number_in 4 (find (λ (a : Attr). a.kind == kind) all)
first_alike kind [] = refl
first_alike kind (a ∷ rest) =
    elim (a.kind == kind) as (λ b. (a.kind == kind) ≡ b
    → option_and_then (in_four kind) (if b then Some a else find (λ (x : Attr). x.kind == kind) rest) ≡ number_in 4 (if b then Some a else find (λ (x : Attr). x.kind == kind) rest)) [
      | true ↦ λ is. ap (λ (k : ℕ). unless_refused (value_refusal k 4 4 a) (Some (big_number 4 a.value))) (sym (eqb-true a.kind kind is))
      | false ↦ λ other. first_alike kind rest
    ] refl

pub lifetime_alike : (bytes : List ℕ) → lifetime_reported bytes ≡ number_visible 4 lifetime_kind bytes
lifetime_alike bytes = first_alike lifetime_kind (visible bytes)

pub connection_alike : (bytes : List ℕ) → connection_reported bytes ≡ number_visible 4 connection_id_kind bytes
connection_alike bytes = first_alike connection_id_kind (visible bytes)
