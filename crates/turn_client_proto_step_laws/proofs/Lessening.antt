-- What calls do to allocations: none has anything that it hadn't before, except for REFRESH requests that it
-- awaits.
use Rattle.std.proofs.Common.{◌≡◌, ℕ, zero, suc, ◌*◌, Bool, true, false, List, [], ◌∷◌, Option, Some, None, if◌then◌else◌, refl, sym, subst, arith, inl, inr}
use Rattle.std.specs.Prelude.{map, nat_le}
use Rattle.turn_client_proto_timers.specs.StunTypesBase.Times.{time_after}
use Rattle.turn_client_proto_timers.specs.TurnRuns.Members.{IsIn}
use Rattle.turn_client_proto_timers.specs.Allocation.Changes.{change_first}
use Rattle.turn_client_proto_timers.specs.Allocation.Polling.{has_ended, stored, polled, stays}
use Rattle.turn_client_proto_timers.specs.Allocation.Refreshing.{deleted, lifetime_requested, margin_of, refreshing, renewed, renewed_by, second, is_active_for}
use Rattle.turn_client_proto_timers.specs.Peers.Permission.Asking.{marked}
use Rattle.turn_client_proto_timers.specs.Peers.Channel.Numbers.{AreDistinct}
use Rattle.turn_client_proto_timers.proofs.Peers.Distinct.{alike_uses_less, each_stay_distinct, ended_uses_less, first_stay_distinct, stored_stay_distinct}
use Rattle.turn_client_proto_step_laws.specs.Held.{Allocation, PendingRefresh}
use Rattle.turn_client_proto_step_laws.specs.Sound.{AreShort}
use Rattle.turn_client_proto_step_laws.proofs.Adding.{AreLess, IsLess, WasMore}
use Rattle.turn_client_proto_step_laws.proofs.Lists.{IsImage, in_changed, in_either, in_filter, in_map}

-- ---- one allocation

itself : (more : List PendingRefresh) (a : Allocation) → IsLess more a a
itself more a = record {
  transport = refl;
  address = refl;
  permissions = λ p h. h;
  channels = λ c h. h;
  new_permissions = λ p h. h;
  new_channels = λ c h. h;
  refreshes = λ r h. inl h;
  connecting = λ c h. h;
  waiting = λ w h. h;
  connections = λ c h. h;
}

-- One more REFRESH is awaited.
pub one_awaited : (refresh : PendingRefresh) (a : Allocation) → IsLess (refresh ∷ []) a (refreshing refresh a)
one_awaited refresh a = record {
  transport = refl;
  address = refl;
  permissions = λ p h. h;
  channels = λ c h. h;
  new_permissions = λ p h. h;
  new_channels = λ c h. h;
  refreshes = λ r h. in_either r a.pending_refreshes (refresh ∷ []) h;
  connecting = λ c h. h;
  waiting = λ w h. h;
  connections = λ c h. h;
}

pub end_requested : (number now : ℕ) (a : Allocation) → IsLess (record { number = number; lifetime = 0 } ∷ []) a (deleted number now a)
end_requested number now a = record {
  transport = refl;
  address = refl;
  permissions = λ p h. absurd h;
  channels = λ c h. absurd h;
  new_permissions = λ p h. h;
  new_channels = λ c h. h;
  refreshes = λ r h. in_either r a.pending_refreshes (record { number = number; lifetime = 0 } ∷ []) h;
  connecting = λ c h. h;
  waiting = λ w h. h;
  connections = λ c h. h;
}

-- An allocation that is marked as expired.
pub marked_less : (a : Allocation) → IsLess [] a (marked a)
marked_less a = record {
  transport = refl;
  address = refl;
  permissions = λ p h. h;
  channels = λ c h. h;
  new_permissions = λ p h. h;
  new_channels = λ c h. h;
  refreshes = λ r h. inl h;
  connecting = λ c h. h;
  waiting = λ w h. h;
  connections = λ c h. h;
}

-- No REFRESH is awaited any more.
none_awaited : (a : Allocation) (lifetime expiry : ℕ) → IsLess [] a (record a { renewal_lifetime = lifetime; expiry = expiry; pending_refreshes = [] })
none_awaited a lifetime expiry = record {
  transport = refl;
  address = refl;
  permissions = λ p h. h;
  channels = λ c h. h;
  new_permissions = λ p h. h;
  new_channels = λ c h. h;
  refreshes = λ r h. absurd h;
  connecting = λ c h. h;
  waiting = λ w h. h;
  connections = λ c h. h;
}

polled_less : (over : Option ℕ) (a : Allocation) → IsLess [] a (polled over a)
unfolding polled
polled_less over a =
    elim (has_ended over a.pending_refreshes) as (λ b. IsLess [] a (if b then record a { pending_refreshes = [] } else a)) [
      | true ↦ none_awaited a a.renewal_lifetime a.expiry
      | false ↦ itself [] a
    ]

standing_less : (least now : ℕ) (reported : Option ℕ) (a : Allocation) → IsLess [] a (is_active_for least now reported a)
standing_less least now None a = itself [] a
standing_less least now (Some lifetime) a =
    elim (nat_le least lifetime) as (λ b. IsLess [] a (if b then record a { renewal_lifetime = margin_of a.renewal_lifetime lifetime; expiry = time_after now (lifetime * second); pending_refreshes = [] } else a)) [
      | true ↦ none_awaited a (margin_of a.renewal_lifetime lifetime) (time_after now (lifetime * second))
      | false ↦ itself [] a
    ]

renewed_less_by : (least now : ℕ) (reported requested : Option ℕ) (a : Allocation) → IsLess [] a (renewed_by least now reported requested a)
renewed_less_by least now reported None a = itself [] a
renewed_less_by least now reported (Some zero) a = none_awaited a a.renewal_lifetime a.expiry
renewed_less_by least now reported (Some (suc n)) a = standing_less least now reported a

renewed_less : (least number now : ℕ) (reported : Option ℕ) (a : Allocation) → IsLess [] a (renewed least number now reported a)
unfolding renewed
renewed_less least number now reported a = renewed_less_by least now reported (lifetime_requested number a.pending_refreshes) a

-- ---- all of them

was_itself : (more : List PendingRefresh) (old : List Allocation) (a : Allocation) → IsIn a old → WasMore more old a
was_itself more old a listed = record { before = a; listed = listed; less = itself more a }

module _ (more : List PendingRefresh) (f : Allocation → Allocation) (less : (a : Allocation) → IsLess more a (f a)) where
  was_image : (old : List Allocation) (a : Allocation) → IsImage f a old → WasMore more old a
  was_image old a is = record {
    before = is.source;
    listed = is.listed;
    less = subst (λ (x : Allocation). IsLess more is.source x) (sym is.is) (less is.source);
  }

  pub each_less : (old : List Allocation) → AreLess more old (map f old)
  each_less old a listed = was_image old a (in_map f a old listed)

  pub first_less : (passes : Allocation → Bool) (old : List Allocation) → AreLess more old (change_first passes f old)
  first_less passes old a listed = elim (in_changed passes f a old listed) [
    | inl was ↦ was_itself more old a was
    | inr now ↦ was_image old a now
  ]

pub none_less : (old : List Allocation) → AreLess [] old []
none_less old a listed = absurd listed

pub all_renewed : (least number now : ℕ) (reported : Option ℕ) (old : List Allocation) → AreLess [] old (map (renewed least number now reported) old)
all_renewed least number now reported old = each_less [] (renewed least number now reported) (renewed_less least number now reported) old

pub all_polled : (over : Option ℕ) (now : ℕ) (old : List Allocation) → AreLess [] old (map (polled over) (stored over now old))
all_polled over now old a listed =
    let was = each_less [] (polled over) (polled_less over) (stored over now old) a listed in
    record { before = was.before; listed = (in_filter (stays over now) was.before old was.listed).0; less = was.less }

-- ---- transaction IDs of channels

-- An allocation with the channels of another one.
abbrev pub IsAlike : Allocation → Allocation → Type 0
IsAlike old new = (new.channels ≡ old.channels) × (new.pending_channels ≡ old.pending_channels)

polled_alike : (over : Option ℕ) (a : Allocation) → IsAlike a (polled over a)
unfolding polled
polled_alike over a =
    elim (has_ended over a.pending_refreshes) as (λ b. IsAlike a (if b then record a { pending_refreshes = [] } else a)) [
      | true ↦ (refl, refl)
      | false ↦ (refl, refl)
    ]

standing_alike : (least now : ℕ) (reported : Option ℕ) (a : Allocation) → IsAlike a (is_active_for least now reported a)
standing_alike least now None a = (refl, refl)
standing_alike least now (Some lifetime) a =
    elim (nat_le least lifetime) as (λ b. IsAlike a (if b then record a { renewal_lifetime = margin_of a.renewal_lifetime lifetime; expiry = time_after now (lifetime * second); pending_refreshes = [] } else a)) [
      | true ↦ (refl, refl)
      | false ↦ (refl, refl)
    ]

renewed_alike_by : (least now : ℕ) (reported requested : Option ℕ) (a : Allocation) → IsAlike a (renewed_by least now reported requested a)
renewed_alike_by least now reported None a = (refl, refl)
renewed_alike_by least now reported (Some zero) a = (refl, refl)
renewed_alike_by least now reported (Some (suc n)) a = standing_alike least now reported a

renewed_alike : (least number now : ℕ) (reported : Option ℕ) (a : Allocation) → IsAlike a (renewed least number now reported a)
unfolding renewed
renewed_alike least number now reported a = renewed_alike_by least now reported (lifetime_requested number a.pending_refreshes) a

-- Changes that leave channels as they are leave their numbers distinct.
pub same_distinct : (f : Allocation → Allocation) → ((a : Allocation) → IsAlike a (f a)) → (all : List Allocation) → AreDistinct all → AreDistinct (map f all)
same_distinct f alike all distinct = each_stay_distinct all f (λ a. alike_uses_less a (f a) (alike a).0 (alike a).1) distinct

pub same_first_distinct : (passes : Allocation → Bool) (f : Allocation → Allocation) → ((a : Allocation) → IsAlike a (f a)) → (all : List Allocation) → AreDistinct all → AreDistinct (change_first passes f all)
same_first_distinct passes f alike all distinct = first_stay_distinct all passes f (λ a found. alike_uses_less a (f a) (alike a).0 (alike a).1) distinct

pub renewed_distinct : (least number now : ℕ) (reported : Option ℕ) (all : List Allocation) → AreDistinct all → AreDistinct (map (renewed least number now reported) all)
renewed_distinct least number now reported all distinct = same_distinct (renewed least number now reported) (renewed_alike least number now reported) all distinct

pub polled_distinct : (over : Option ℕ) (now : ℕ) (all : List Allocation) → AreDistinct all → AreDistinct (map (polled over) (stored over now all))
polled_distinct over now all distinct = same_distinct (polled over) (polled_alike over) (stored over now all) (stored_stay_distinct all (stays over now) distinct)

pub deleted_distinct : (number now : ℕ) (all : List Allocation) → AreDistinct all → AreDistinct (map (deleted number now) all)
deleted_distinct number now all distinct =
    each_stay_distinct all (deleted number now) (λ a. ended_uses_less now (refreshing (record { number = number; lifetime = 0 }) a)) distinct

pub none_distinct : AreDistinct []
none_distinct number = omega arith

-- ---- lifetimes

pub still_short : (more : List PendingRefresh) (old new : List Allocation) → AreLess more old new → AreShort more → ((a : Allocation) → IsIn a old → AreShort a.pending_refreshes)
    → (a : Allocation) → IsIn a new → AreShort a.pending_refreshes
still_short more old new less few short a listed r there =
    let was = less a listed in
    elim (was.less.refreshes r there) [ inl before ↦ short was.before was.listed r before | inr now ↦ few r now ]
