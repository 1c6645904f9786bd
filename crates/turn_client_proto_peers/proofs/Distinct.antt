-- No two channels of a client have the same number. This stays so when a channel is requested under a free
-- number, and when channels are moved or removed.
use Rattle.std.proofs.Common.{◌≡◌, ℕ, zero, suc, ◌+◌, ◌≤◌, Bool, true, false, ◌||◌, not, List, [], ◌∷◌, ◌++◌, map, filter, eqb, Option, Some, None, if◌then◌else◌, slice_get, slice_set, refl, sym, ◌∙◌, ap, subst, arith, inl, inr}
use Rattle.std.proofs.lemmas.Bool.{cases_Bool, eqb-true}
use Rattle.std.specs.List.{list_any, remove}
use Rattle.std.specs.Prelude.{find}
use Rattle.std.specs.Option.{option_and_then, option_map, option_or}
use Rattle.std.specs.declared.net.socket_addr.SocketAddr.{SocketAddr}
use Rattle.stun_types_base.specs.declared.transport.TransportType.{TransportType}
use Rattle.turn_client_proto_allocation.specs.Awaited.{asks_for_channel, asks_for_permission, is_among, is_connecting, renews_channel, renews_permission}
use Rattle.turn_client_proto_allocation.specs.Changes.{change_first}
use Rattle.turn_client_proto_allocation.specs.Refreshing.{ended, lifetime_requested}
use Rattle.turn_client_proto_allocation.specs.declared.allocation.Allocation.{Allocation}
use Rattle.turn_client_proto_allocation.specs.declared.channel.Channel.{Channel}
use Rattle.turn_client_proto_allocation.specs.declared.channel.PendingChannel.{PendingChannel}
use Rattle.turn_client_proto_allocation.specs.declared.connection.Connecting.{Connecting}
use Rattle.turn_client_proto_allocation.specs.declared.permission.PendingPermission.{PendingPermission}
use Rattle.turn_client_proto_allocation.specs.declared.permission.Permission.{Permission}
use Rattle.turn_client_proto_allocation.specs.PendingRequests.{pending_request, requested_of, reissued_under, awaits_reply, permission_too}
use Rattle.turn_client_proto_peers.specs.Channel.Binding.{asking}
use Rattle.turn_client_proto_allocation.specs.Channels.{requested_again, awaiting, has_expired, is_over, polled_channel, renewed_again, renewed_channel, wants_renewal, with_number}
use Rattle.turn_client_proto_peers.specs.Channel.Granted.{all_bound, bound, channel_end, granted_to, expire_due, renewed, rejected}
use Rattle.turn_client_proto_peers.specs.Channel.Expiring.{expired, last_index, polled, without}
use Rattle.turn_client_proto_peers.specs.Channel.Wanting.{renewing}
use Rattle.turn_client_proto_allocation.specs.declared.pending.PendingRequest.{PendingRequest}
use Rattle.turn_client_proto_allocation.specs.declared.pending.PendingRequest.TheVariants.{ChannelRenewal, Lifetime, NewChannel, NewConnection, NewPermission, Renewal}
use Rattle.turn_client_proto_peers.specs.Channel.Numbers.{AreDistinct, IsLeastFree, counted, is_requested_as, is_numbered, is_taken, is_taken_in, uses, uses_in}

-- ---- how many elements pass

none_counted : {X : Type 0} (p : X → Bool) (xs : List X) → list_any p xs ≡ false → counted p xs ≡ 0
none_counted p [] h = refl
none_counted p (x ∷ xs) h =
    elim (cases_Bool (p x)) [
      | inl is ↦ absurd (let q = rw is at h in cc)
      | inr not ↦ let rest = none_counted p xs (rw not at h) in rw not (let e : 0 + counted p xs ≡ 0 = omega (arith, rest) in e)
    ]

counted_append : {X : Type 0} (p : X → Bool) (xs ys : List X) → counted p (xs ++ ys) ≡ counted p xs + counted p ys
counted_append p [] ys = omega arith
counted_append p (x ∷ xs) ys = let later = counted_append p xs ys in omega (arith, later)

counted_filter : {X : Type 0} (p q : X → Bool) (xs : List X) → counted p (filter q xs) ≤ counted p xs
counted_filter p q [] = omega arith
counted_filter p q (x ∷ xs) =
    let later = counted_filter p q xs in
    elim (cases_Bool (q x)) [ inl is ↦ rw is (omega (arith, later)) | inr not ↦ rw not (omega (arith, later)) ]

counted_map : {X : Type 0} (p : X → Bool) (f : X → X) → ((x : X) → p (f x) ≡ p x) → (xs : List X) → counted p (map f xs) ≡ counted p xs
counted_map p f same [] = refl
counted_map p f same (x ∷ xs) =
    ap (λ b. (if b then 1 else 0) + counted p (map f xs)) (same x) ∙ ap (λ n. (if p x then 1 else 0) + n) (counted_map p f same xs)

counted_first : {X : Type 0} (p q : X → Bool) (f : X → X) → ((x : X) → p (f x) ≡ p x) → (xs : List X) → counted p (change_first q f xs) ≡ counted p xs
counted_first p q f same [] = refl
counted_first p q f same (x ∷ xs) =
    elim (cases_Bool (q x)) [
      | inl is ↦ rw is (ap (λ b. (if b then 1 else 0) + counted p xs) (same x))
      | inr not ↦ rw not (ap (λ n. (if p x then 1 else 0) + n) (counted_first p q f same xs))
    ]

counted_remove : {X : Type 0} (p : X → Bool) (xs : List X) (index : ℕ) → counted p (remove xs index) ≤ counted p xs
counted_remove p [] zero = omega arith
counted_remove p [] (suc index) = omega arith
counted_remove p (x ∷ xs) zero = omega arith
counted_remove p (x ∷ xs) (suc index) = let later = counted_remove p xs index in omega (arith, later)

counted_without : {X : Type 0} (p : X → Bool) (xs : List X) (index : Option ℕ) → counted p (without xs index) ≤ counted p xs
counted_without p xs None = omega arith
counted_without p xs (Some index) = counted_remove p xs index

-- The element that is found is filtered out.
found_out : {X : Type 0} (p q : X → Bool) (xs : List X) (x : X) → find q xs ≡ Some x → counted p (filter (λ y. not (q y)) xs) + (if p x then 1 else 0) ≤ counted p xs
found_out p q [] x found = absurd (Prim.cc found)
found_out {X = X} p q (y ∷ xs) x found =
    elim (cases_Bool (q y)) [
      | inl is ↦
          let same : y ≡ x = (let h = rw is at found in Prim.cc h) in
          let few = counted_filter p (λ z. not (q z)) xs in
          rw (is, same) (omega (arith, few))
      | inr passed ↦
          let later = found_out p q xs x (rw passed at found) in
          rw passed (omega (arith, later))
    ]

-- ---- of a client

left_false : (a b : Bool) → (a || b) ≡ false → a ≡ false
left_false true b h = absurd (Prim.cc h)
left_false false b h = refl

right_false : (a b : Bool) → (a || b) ≡ false → b ≡ false
right_false true b h = absurd (Prim.cc h)
right_false false b h = h

unused_in : (number now : ℕ) (a : Allocation) → is_taken_in number now a ≡ false → uses_in number a ≡ 0
unfolding is_taken_in
unused_in number now a h =
    let standing = none_counted (is_numbered number) a.channels (left_false (list_any (is_numbered number) a.channels) _ h) in
    let others = right_false (list_any (is_numbered number) a.channels) _ h in
    let requested = none_counted (is_requested_as number) a.pending_channels (left_false (list_any (is_requested_as number) a.pending_channels) _ others) in
    omega (arith, standing, requested)

unused : (number now : ℕ) (all : List Allocation) → is_taken number now all ≡ false → uses number all ≡ 0
unused number now [] h = refl
unused number now (a ∷ all) h =
    let here = unused_in number now a (left_false (is_taken_in number now a) _ h) in
    let there = unused number now all (right_false (is_taken_in number now a) _ h) in
    omega (arith, here, there)

-- The allocation `new` uses no channel number more often than `old`.
abbrev pub UsesLess : Allocation → Allocation → Type 0
UsesLess new old = (number : ℕ) → uses_in number new ≤ uses_in number old

-- The count of uses after an allocation was replaced by another one.
uses_set : (number : ℕ) (all : List Allocation) (index : ℕ) (old new : Allocation) → slice_get all index ≡ Some old → uses number (slice_set all index new) + uses_in number old ≡ uses number all + uses_in number new
uses_set number [] index old new there = absurd (Prim.cc there)
uses_set number (a ∷ all) zero old new there = let same : a ≡ old = Prim.cc there in rw same (omega arith)
uses_set number (a ∷ all) (suc index) old new there = let later = uses_set number all index old new there in omega (arith, later)

uses_map : (number : ℕ) (f : Allocation → Allocation) → ((a : Allocation) → UsesLess (f a) a) → (all : List Allocation) → uses number (map f all) ≤ uses number all
uses_map number f less [] = omega arith
uses_map number f less (a ∷ all) =
    let here = less a number in
    let later = uses_map number f less all in
    omega (arith, here, later)

uses_filter : (number : ℕ) (passes : Allocation → Bool) (all : List Allocation) → uses number (filter passes all) ≤ uses number all
uses_filter number passes [] = omega arith
uses_filter number passes (a ∷ all) =
    let later = uses_filter number passes all in
    elim (cases_Bool (passes a)) [ inl is ↦ rw is (omega (arith, later)) | inr not ↦ rw not (omega (arith, later)) ]

uses_first : (number : ℕ) (passes : Allocation → Bool) (f : Allocation → Allocation) (all : List Allocation) → ((a : Allocation) → find passes all ≡ Some a → UsesLess (f a) a) → uses number (change_first passes f all) ≤ uses number all
uses_first number passes f [] less = omega arith
uses_first number passes f (a ∷ all) less =
    elim (cases_Bool (passes a)) [
      | inl is ↦ let here = less a (rw is refl) number in rw is (omega (arith, here))
      | inr not ↦ let later = uses_first number passes f all (λ b found. less b (rw not found)) in rw not (omega (arith, later))
    ]

uses_append : (number : ℕ) (all more : List Allocation) → uses number (all ++ more) ≡ uses number all + uses number more
uses_append number [] more = omega arith
uses_append number (a ∷ all) more = let later = uses_append number all more in omega (arith, later)

-- A channel is requested under a number that is free.
pub requested_stay_distinct : (all : List Allocation) (index : ℕ) (a : Allocation) (now : ℕ) (c : PendingChannel) → slice_get all index ≡ Some a → AreDistinct all → IsLeastFree all now (Some c.channel) → AreDistinct (slice_set all index (asking c a))
requested_stay_distinct all index a now c there distinct free number =
    let same = uses_set number all index a (asking c a) there in
    let more = counted_append (is_requested_as number) a.pending_channels (c ∷ []) in
    elim (cases_Bool (eqb c.channel number)) [
      | inl is ↦
          let none : uses number all ≡ 0 = unused number now all (ap (λ (n : ℕ). is_taken n now all) (sym (eqb-true c.channel number is)) ∙ free.2) in
          let one : counted (is_requested_as number) (c ∷ []) ≡ 1 = rw is refl in
          omega (arith, same, more, none, one)
      | inr other ↦
          let few = distinct number in
          let zero_more : counted (is_requested_as number) (c ∷ []) ≡ 0 = rw other refl in
          omega (arith, same, more, few, zero_more)
    ]

-- Each allocation was changed, and uses no number more often.
pub each_stay_distinct : (all : List Allocation) (f : Allocation → Allocation) → ((a : Allocation) → UsesLess (f a) a) → AreDistinct all → AreDistinct (map f all)
each_stay_distinct all f less distinct number =
    let few = distinct number in
    let fewer = uses_map number f less all in
    omega (arith, few, fewer)

-- The first allocation that passes was changed, and uses no number more often.
pub first_stay_distinct : (all : List Allocation) (passes : Allocation → Bool) (f : Allocation → Allocation) → ((a : Allocation) → find passes all ≡ Some a → UsesLess (f a) a) → AreDistinct all → AreDistinct (change_first passes f all)
first_stay_distinct all passes f less distinct number =
    let few = distinct number in
    let fewer = uses_first number passes f all less in
    omega (arith, few, fewer)

-- The allocation at an index was changed, and uses no number more often.
pub placed_stay_distinct : (all : List Allocation) (index : ℕ) (old new : Allocation) → slice_get all index ≡ Some old → UsesLess new old → AreDistinct all → AreDistinct (slice_set all index new)
placed_stay_distinct all index old new there less distinct number =
    let few = distinct number in
    let same = uses_set number all index old new there in
    let fewer = less number in
    omega (arith, few, same, fewer)

-- Some allocations are removed.
pub stored_stay_distinct : (all : List Allocation) (passes : Allocation → Bool) → AreDistinct all → AreDistinct (filter passes all)
stored_stay_distinct all passes distinct number =
    let few = distinct number in
    let fewer = uses_filter number passes all in
    omega (arith, few, fewer)

-- Allocations without channels are added.
pub added_stay_distinct : (all more : List Allocation) → ((number : ℕ) → uses number more ≡ 0) → AreDistinct all → AreDistinct (all ++ more)
added_stay_distinct all more none distinct number =
    let few = distinct number in
    let same = uses_append number all more in
    let zero_more = none number in
    omega (arith, few, same, zero_more)

-- ---- of an allocation

-- An allocation has the same channels as another one.
pub alike_uses_less : (old new : Allocation) → new.channels ≡ old.channels → new.pending_channels ≡ old.pending_channels → UsesLess new old
alike_uses_less old new standing pending number =
    let one = ap (counted (is_numbered number)) standing in
    let other = ap (counted (is_requested_as number)) pending in
    omega (arith, one, other)

-- A channel that was requested was granted.
pub bound_uses_less : (request now : ℕ) (a : Allocation) (c : PendingChannel) → find (asks_for_channel request) a.pending_channels ≡ Some c → UsesLess (bound c.channel c.peer request now a) a
bound_uses_less request now a c found number =
    let one = counted_append (is_numbered number) a.channels (granted_to c.channel c.peer now ∷ []) in
    let out = found_out (is_requested_as number) (asks_for_channel request) a.pending_channels c found in
    omega (arith, one, out)

-- The pending channels of a request are removed.
pub rejected_uses_less : (request : ℕ) (a : Allocation) → UsesLess (rejected request a) a
unfolding rejected
rejected_uses_less request a number =
    let few = counted_filter (is_requested_as number) (λ c. not (asks_for_channel request c)) a.pending_channels in
    omega (arith, few)

-- The channels that were to be renewed are moved to the expired ones.
pub expire_due_uses_less : (request : ℕ) (a : Allocation) → UsesLess (expire_due request a) a
unfolding expire_due
expire_due_uses_less request a number =
    let few = counted_filter (is_numbered number) (λ c. not (renews_channel request c)) a.channels in
    omega (arith, few)

renewed_number : (request expiry number : ℕ) (c : Channel) → is_numbered number (renewed_channel request expiry c) ≡ is_numbered number c
unfolding renewed_channel
renewed_number request expiry number c = elim (cases_Bool (renews_channel request c)) [ inl is ↦ rw is refl | inr not ↦ rw not refl ]

-- The channels that were to be renewed are extended.
pub renewed_uses_less : (request now : ℕ) (a : Allocation) → UsesLess (renewed request now a) a
unfolding renewed
renewed_uses_less request now a number =
    let same = counted_map (is_numbered number) (renewed_channel request (channel_end now)) (renewed_number request (channel_end now) number) a.channels in
    omega (arith, same)

polled_number : (ended : Option ℕ) (number : ℕ) (c : Channel) → is_numbered number (polled_channel ended c) ≡ is_numbered number c
unfolding polled_channel
polled_number ended number c = elim (cases_Bool (is_among ended c.renewals)) [ inl is ↦ rw is refl | inr not ↦ rw not refl ]

-- Channels after a poll.
pub polled_uses_less : (ended : Option ℕ) (now : ℕ) (a : Allocation) → UsesLess (polled ended now a) a
unfolding polled expired
polled_uses_less ended now a number =
    let standing = without a.channels (last_index (has_expired now) a.channels) in
    let same = counted_map (is_numbered number) (polled_channel ended) (polled_number ended number) standing in
    let fewer = counted_without (is_numbered number) a.channels (last_index (has_expired now) a.channels) in
    let few = counted_filter (is_requested_as number) (λ c. not (is_over ended c)) a.pending_channels in
    omega (arith, same, fewer, few)

-- A request is to renew the first channel that is to be renewed.
pub renewing_uses_less : (now request : ℕ) (a : Allocation) → UsesLess (renewing now request a) a
renewing_uses_less now request a number =
    let same = counted_first (is_numbered number) (wants_renewal now) (awaiting request) (λ c. refl) a.channels in
    omega (arith, same)

too_uses_less : (old request : ℕ) (a : Allocation) → UsesLess (permission_too old request a) a
unfolding permission_too
too_uses_less old request a number =
    elim (cases_Bool (list_any (asks_for_permission old) a.pending_permissions)) [ inl is ↦ rw is (omega arith) | inr not ↦ rw not (omega arith) ]

-- Another request is for the same things, too.
pub reissued_under_uses_less : (requested : PendingRequest) (old request : ℕ) (a : Allocation) → UsesLess (reissued_under requested old request a) a
reissued_under_uses_less (Lifetime lifetime) old request a number = omega arith
reissued_under_uses_less (NewChannel transport channel peer) old request a number =
    let same = counted_first (is_requested_as number) (asks_for_channel old) (with_number request) (λ c. refl) a.pending_channels in
    let few = too_uses_less old request (record a { pending_channels = requested_again old request a.pending_channels }) number in
    omega (arith, same, few)
reissued_under_uses_less (ChannelRenewal transport channel peer) old request a number =
    let same = counted_first (is_numbered number) (renews_channel old) (awaiting request) (λ c. refl) a.channels in
    let few = too_uses_less old request (record a { channels = renewed_again old request a.channels }) number in
    omega (arith, same, few)
reissued_under_uses_less (NewPermission transport ip) old request a number = omega arith
reissued_under_uses_less (Renewal transport ip) old request a number = omega arith
reissued_under_uses_less (NewConnection peer) old request a number = omega arith

-- An allocation that ends has no active channels.
pub ended_uses_less : (now : ℕ) (a : Allocation) → UsesLess (ended now a) a
ended_uses_less now a number = omega arith

-- ---- a channel that was requested is granted

-- The request is for this channel.
abbrev pub IsPending : ℕ → Allocation → ℕ → SocketAddr → Type 0
IsPending request a channel peer =
    (c : PendingChannel) × (find (asks_for_channel request) a.pending_channels ≡ Some c) × (c.channel ≡ channel) × (c.peer ≡ peer)

pending_by : (request : ℕ) (a : Allocation) (lifetime : Option ℕ) (found : Option PendingChannel) (renewal : Option Channel) (requested : Option PendingPermission) (again : Option Permission) (connection : Option Connecting) (transport : TransportType) (channel : ℕ) (peer : SocketAddr)
    → option_or (option_map Lifetime lifetime) (option_or (option_map (λ (c : PendingChannel). NewChannel a.transport c.channel c.peer) found)
    (option_or (option_map (λ (c : Channel). ChannelRenewal a.transport c.number c.peer) renewal)
    (option_or (option_map (λ (p : PendingPermission). NewPermission a.transport p.ip) requested)
    (option_or (option_map (λ (p : Permission). Renewal a.transport p.ip) again) (option_map (λ (c : Connecting). NewConnection c.peer) connection)))))
    ≡ Some (NewChannel transport channel peer)
    → (c : PendingChannel) × (found ≡ Some c) × (c.channel ≡ channel) × (c.peer ≡ peer)
pending_by request a (Some lifetime) found renewal requested again connection transport channel peer is = absurd (Prim.cc is)
pending_by request a None (Some c) renewal requested again connection transport channel peer is = (c, refl, Prim.cc is, Prim.cc is)
pending_by request a None None (Some c) requested again connection transport channel peer is = absurd (Prim.cc is)
pending_by request a None None None (Some p) again connection transport channel peer is = absurd (Prim.cc is)
pending_by request a None None None None (Some p) connection transport channel peer is = absurd (Prim.cc is)
pending_by request a None None None None None (Some c) transport channel peer is = absurd (Prim.cc is)
pending_by request a None None None None None None transport channel peer is = absurd (Prim.cc is)

pub channel_pending : (request : ℕ) (a : Allocation) (transport : TransportType) (channel : ℕ) (peer : SocketAddr) → requested_of request a ≡ Some (NewChannel transport channel peer) → IsPending request a channel peer
unfolding requested_of
channel_pending request a transport channel peer is =
    pending_by request a (lifetime_requested request a.pending_refreshes) (find (asks_for_channel request) a.pending_channels) (find (renews_channel request) a.channels)
    (find (asks_for_permission request) a.pending_permissions) (find (renews_permission request) a.permissions) (find (is_connecting request) a.connecting) transport channel peer is

pub bound_stay_distinct : (all : List Allocation) (transport : TransportType) (channel : ℕ) (peer : SocketAddr) (request now : ℕ) → pending_request request all ≡ Some (NewChannel transport channel peer) → AreDistinct all → AreDistinct (all_bound channel peer request now all)
bound_stay_distinct all transport channel peer request now is =
    first_stay_distinct all (awaits_reply request) (bound channel peer request now) (λ a found.
    let requested : requested_of request a ≡ Some (NewChannel transport channel peer) = ap (option_and_then (requested_of request)) (sym found) ∙ is in
    let pending = channel_pending request a transport channel peer requested in
    let less = bound_uses_less request now a pending.0 pending.1 in
    subst (λ n. UsesLess (bound n peer request now a) a) pending.2 (subst (λ p. UsesLess (bound pending.0.channel p request now a) a) pending.3 less))
