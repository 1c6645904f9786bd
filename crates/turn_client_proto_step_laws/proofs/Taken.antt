-- A transaction ID that a request may not get is taken.
use Rattle.std.proofs.Common.{◌≡◌, ℕ, Bool, true, false, ◌||◌, List, eqb, Option, Some, None, refl, sym, ap, ◌∙◌, subst, inl, inr}
use Rattle.std.proofs.lemmas.Bool.{cases_Bool, eqb-false, eqb-true}
use Rattle.std.specs.Prelude.{is_some}
use Rattle.std.specs.FinMap as map
use Rattle.std.specs.List.{list_any}
use Rattle.turn_client_proto_timers.specs.StunProtoTransaction.Agents.{Transaction}
use Rattle.turn_client_proto_timers.specs.TurnRuns.Members.{IsIn}
use Rattle.turn_client_proto_timers.specs.Allocation.Awaited.{asks_for_channel, asks_for_permission, has_number, is_attempt, is_awaited, is_binding, is_bound_by, is_connecting, is_number, is_refresh, renews_channel, renews_permission}
use Rattle.turn_client_proto_timers.specs.Allocation.Listed.{is_any_awaited}
use Rattle.turn_client_proto_timers.specs.Core.Authenticating.{numbers_sent}
use Rattle.turn_client_proto_timers.specs.Core.Numbering.{awaits, is_taken}
use Rattle.turn_client_proto_timers.specs.Core.declared.protocol.Phase.{Phase}
use Rattle.turn_client_proto_timers.specs.Core.declared.protocol.Phase.TheVariants.{Initial, InitialSent, Authenticating, Authenticated, Ended}
use Rattle.turn_client_proto_timers.specs.Core.declared.protocol.Protocol.{Protocol}
use Rattle.turn_client_proto_step_laws.specs.ClientWords.{IsPending, OfPermission, OfChannel, OfNewPermission, OfNewChannel, OfRefresh, OfConnect, OfAttempt, OfBinding, IsTaken, Outstanding, Allocating, Pending}
use Rattle.turn_client_proto_step_laws.specs.Held.{Allocation, Binding}
use Rattle.turn_client_proto_step_laws.specs.RunClient.{parts_of}
use Rattle.turn_client_proto_step_laws.proofs.Lists.{any_passes, either, or_true, passes_one}
use Rattle.turn_client_proto_step_laws.proofs.Orderly.{IsFree}

pub among : (number : ℕ) (numbers : List ℕ) → has_number number numbers ≡ true → IsIn number numbers
among number numbers h =
    let found = passes_one (λ n. eqb n number) numbers h in
    subst (λ n. IsIn n numbers) (eqb-true found.one number found.passes) found.listed

number_is : (number : ℕ) (o : Option ℕ) → is_number number o ≡ true → o ≡ Some number
number_is number None h = absurd (Prim.cc h)
number_is number (Some n) h = ap Some (eqb-true n number h)

-- The CONNECTION_BIND that is awaited, and its transaction ID.
record IsBoundBy (number : ℕ) (o : Option Binding) : Type 0 where
  binding : Binding
  is : o ≡ Some binding
  number_is : binding.number ≡ number

bound_by : (number : ℕ) (o : Option Binding) → is_bound_by number o ≡ true → IsBoundBy number o
bound_by number None h = absurd (Prim.cc h)
bound_by number (Some b) h = record { binding = b; is = refl; number_is = eqb-true b.number number h }

module _ (number : ℕ) (a : Allocation) where
  by_permission : list_any (renews_permission number) a.permissions ≡ true → IsPending number a
  by_permission h = let f = passes_one (renews_permission number) a.permissions h in OfPermission f.one f.listed (among number f.one.renewals f.passes)

  by_channel : list_any (renews_channel number) a.channels ≡ true → IsPending number a
  by_channel h = let f = passes_one (renews_channel number) a.channels h in OfChannel f.one f.listed (among number f.one.renewals f.passes)

  by_new_permission : list_any (asks_for_permission number) a.pending_permissions ≡ true → IsPending number a
  by_new_permission h = let f = passes_one (asks_for_permission number) a.pending_permissions h in OfNewPermission f.one f.listed (among number f.one.numbers f.passes)

  by_new_channel : list_any (asks_for_channel number) a.pending_channels ≡ true → IsPending number a
  by_new_channel h = let f = passes_one (asks_for_channel number) a.pending_channels h in OfNewChannel f.one f.listed (among number f.one.numbers f.passes)

  by_refresh : list_any (is_refresh number) a.pending_refreshes ≡ true → IsPending number a
  by_refresh h = let f = passes_one (is_refresh number) a.pending_refreshes h in OfRefresh f.one f.listed (eqb-true f.one.number number f.passes)

  by_connect : list_any (is_connecting number) a.connecting ≡ true → IsPending number a
  by_connect h = let f = passes_one (is_connecting number) a.connecting h in OfConnect f.one f.listed (eqb-true f.one.number number f.passes)

  by_attempt : list_any (is_attempt number) a.waiting ≡ true → IsPending number a
  by_attempt h = let f = passes_one (is_attempt number) a.waiting h in OfAttempt f.one f.listed (number_is number f.one.attempt f.passes)

  by_binding : list_any (is_binding number) a.connections ≡ true → IsPending number a
  by_binding h =
      let f = passes_one (is_binding number) a.connections h in
      let b = bound_by number f.one.awaited f.passes in
      OfBinding f.one f.listed b.binding b.is b.number_is

  pending : is_awaited number a ≡ true → IsPending number a
  unfolding is_awaited
  pending h = elim (either _ _ h) [
    | inl is ↦ by_permission is
    | inr h1 ↦ elim (either _ _ h1) [
      | inl is ↦ by_channel is
      | inr h2 ↦ elim (either _ _ h2) [
        | inl is ↦ by_new_permission is
        | inr h3 ↦ elim (either _ _ h3) [
          | inl is ↦ by_new_channel is
          | inr h4 ↦ elim (either _ _ h4) [
            | inl is ↦ by_refresh is
            | inr h5 ↦ elim (either _ _ h5) [
              | inl is ↦ by_connect is
              | inr h6 ↦ elim (either _ _ h6) [
                | inl is ↦ by_attempt is
                | inr h7 ↦ by_binding h7
              ]
            ]
          ]
        ]
      ]
    ]
  ]

sent_by : (number : ℕ) (phase : Phase) → awaits number phase ≡ true → IsIn number (numbers_sent phase)
unfolding awaits
sent_by number Initial h = absurd (Prim.cc h)
sent_by number (InitialSent numbers) h = among number numbers h
sent_by number (Authenticating numbers) h = among number numbers h
sent_by number Authenticated h = absurd (Prim.cc h)
sent_by number Ended h = absurd (Prim.cc h)

outstanding_by : (p : Protocol) (number : ℕ) (found : Option Transaction) → map.get p.agent.outstanding number ≡ found → is_some found ≡ true → IsTaken (parts_of p) number
outstanding_by p number None there h = absurd (Prim.cc h)
outstanding_by p number (Some t) there h = Outstanding t there

pub taken_by : (p : Protocol) (number : ℕ) → is_taken p number ≡ true → IsTaken (parts_of p) number
unfolding is_taken
taken_by p number h = elim (either _ _ h) [
  | inl is ↦ outstanding_by p number (map.get p.agent.outstanding number) refl is
  | inr others ↦ elim (either _ _ others) [
    | inl is ↦ Allocating (sent_by number p.phase is)
    | inr listed ↦
        let f = passes_one (is_awaited number) p.allocations listed in
        Pending f.one f.listed (pending number f.one f.passes)
  ]
]

-- ---- a number that is not taken

own_number : (n : ℕ) → eqb n n ≡ true
own_number n = elim (cases_Bool (eqb n n)) [
  | inl is ↦ is
  | inr differs ↦ absurd (eqb-false n n differs refl)
]

has_own : (n : ℕ) (numbers : List ℕ) → IsIn n numbers → has_number n numbers ≡ true
has_own n numbers h = any_passes (λ m. eqb m n) numbers n h (own_number n)

same_number : (n m : ℕ) → n ≡ m → eqb n m ≡ true
same_number n m is = ap (λ k. eqb k m) is ∙ own_number m

first_true : (x y : Bool) → x ≡ true → (x || y) ≡ true
first_true x y is = ap (λ b. b || y) is

later_true : (x y : Bool) → y ≡ true → (x || y) ≡ true
later_true x y is = ap (λ b. x || b) is ∙ or_true x

-- What an allocation awaits, kind by kind.
module _ (number : ℕ) (a : Allocation) where
  abbrev from_bindings : Bool
  from_bindings = list_any (is_binding number) a.connections

  abbrev from_attempts : Bool
  from_attempts = list_any (is_attempt number) a.waiting || from_bindings

  abbrev from_connecting : Bool
  from_connecting = list_any (is_connecting number) a.connecting || from_attempts

  abbrev from_refreshes : Bool
  from_refreshes = list_any (is_refresh number) a.pending_refreshes || from_connecting

  abbrev from_new_channels : Bool
  from_new_channels = list_any (asks_for_channel number) a.pending_channels || from_refreshes

  abbrev from_new_permissions : Bool
  from_new_permissions = list_any (asks_for_permission number) a.pending_permissions || from_new_channels

  abbrev from_channels : Bool
  from_channels = list_any (renews_channel number) a.channels || from_new_permissions

  abbrev from_permissions : Bool
  from_permissions = list_any (renews_permission number) a.permissions || from_channels

  all_from_permissions : from_permissions ≡ true → is_awaited number a ≡ true
  unfolding is_awaited
  all_from_permissions h = h

  all_from_channels : from_channels ≡ true → is_awaited number a ≡ true
  all_from_channels h = all_from_permissions (later_true (list_any (renews_permission number) a.permissions) from_channels h)

  all_from_new_permissions : from_new_permissions ≡ true → is_awaited number a ≡ true
  all_from_new_permissions h = all_from_channels (later_true (list_any (renews_channel number) a.channels) from_new_permissions h)

  all_from_new_channels : from_new_channels ≡ true → is_awaited number a ≡ true
  all_from_new_channels h = all_from_new_permissions (later_true (list_any (asks_for_permission number) a.pending_permissions) from_new_channels h)

  all_from_refreshes : from_refreshes ≡ true → is_awaited number a ≡ true
  all_from_refreshes h = all_from_new_channels (later_true (list_any (asks_for_channel number) a.pending_channels) from_refreshes h)

  all_from_connecting : from_connecting ≡ true → is_awaited number a ≡ true
  all_from_connecting h = all_from_refreshes (later_true (list_any (is_refresh number) a.pending_refreshes) from_connecting h)

  all_from_attempts : from_attempts ≡ true → is_awaited number a ≡ true
  all_from_attempts h = all_from_connecting (later_true (list_any (is_connecting number) a.connecting) from_attempts h)

  all_from_bindings : from_bindings ≡ true → is_awaited number a ≡ true
  all_from_bindings h = all_from_attempts (later_true (list_any (is_attempt number) a.waiting) from_bindings h)

  awaited_by : IsPending number a → is_awaited number a ≡ true
  awaited_by (OfPermission p listed has) = all_from_permissions (first_true (list_any (renews_permission number) a.permissions) from_channels (any_passes (renews_permission number) a.permissions p listed (has_own number p.renewals has)))
  awaited_by (OfChannel c listed has) = all_from_channels (first_true (list_any (renews_channel number) a.channels) from_new_permissions (any_passes (renews_channel number) a.channels c listed (has_own number c.renewals has)))
  awaited_by (OfNewPermission p listed has) = all_from_new_permissions (first_true (list_any (asks_for_permission number) a.pending_permissions) from_new_channels (any_passes (asks_for_permission number) a.pending_permissions p listed (has_own number p.numbers has)))
  awaited_by (OfNewChannel c listed has) = all_from_new_channels (first_true (list_any (asks_for_channel number) a.pending_channels) from_refreshes (any_passes (asks_for_channel number) a.pending_channels c listed (has_own number c.numbers has)))
  awaited_by (OfRefresh r listed is) = all_from_refreshes (first_true (list_any (is_refresh number) a.pending_refreshes) from_connecting (any_passes (is_refresh number) a.pending_refreshes r listed (same_number r.number number is)))
  awaited_by (OfConnect c listed is) = all_from_connecting (first_true (list_any (is_connecting number) a.connecting) from_attempts (any_passes (is_connecting number) a.connecting c listed (same_number c.number number is)))
  awaited_by (OfAttempt w listed is) = all_from_attempts (first_true (list_any (is_attempt number) a.waiting) from_bindings (any_passes (is_attempt number) a.waiting w listed (ap (is_number number) is ∙ own_number number)))
  awaited_by (OfBinding c listed b awaited is) = all_from_bindings (any_passes (is_binding number) a.connections c listed (ap (is_bound_by number) awaited ∙ same_number b.number number is))

listed_taken : (p : Protocol) (number : ℕ) → is_any_awaited number p.allocations ≡ true → is_taken p number ≡ true
unfolding is_taken
listed_taken p number is =
    ap (λ b. is_some (map.get p.agent.outstanding number) || (awaits number p.phase || b)) is
    ∙ ap (λ b. is_some (map.get p.agent.outstanding number) || b) (or_true (awaits number p.phase))
    ∙ or_true (is_some (map.get p.agent.outstanding number))

-- A transaction ID that is not taken is awaited by no allocation.
pub free_by : (p : Protocol) (number : ℕ) → is_taken p number ≡ false → IsFree (parts_of p) number
free_by p number none a listed pending =
    Prim.cc (sym none ∙ listed_taken p number (any_passes (is_awaited number) p.allocations a listed (awaited_by number a pending)))

-- Nothing is outstanding with it.
pub none_outstanding : (p : Protocol) (number : ℕ) (found : Option Transaction) → map.get p.agent.outstanding number ≡ found → is_taken p number ≡ false → found ≡ None
unfolding is_taken
none_outstanding p number None at none = refl
none_outstanding p number (Some t) at none = absurd (Prim.cc (sym (ap (λ o. is_some o || (awaits number p.phase || is_any_awaited number p.allocations)) at) ∙ none))
