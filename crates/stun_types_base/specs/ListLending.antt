-- What a list is when a `&mut` borrow of its elements has ended.
use Rattle.std.specs.Prelude.{ℕ, List, slice_set, take, drop, ◌++◌, length}
use Rattle.std.specs.Borrow.{Lends, Fml, RattleType, MutBor, Array}
use Rattle.stun_types_base.specs.contracts.list.ListOf.{the_row}

module _ (T : RattleType) (lent : MutBor (List T.Denot)) where
  -- The element at this index has the last value written through the borrow. No other element has changed.
  abbrev pub LendsElement : ℕ → MutBor T.Denot → Fml
  LendsElement index borrow = Lends (the_row T) T lent borrow (slice_set lent.now index)

  -- The elements have the last values of the borrow. Their number has not changed.
  abbrev pub LendsSlice : MutBor (List T.Denot) → Fml
  LendsSlice borrow = Lends (the_row T) (Array T 0) lent borrow
      (λ visible. take (length lent.now) (visible ++ drop (length visible) lent.now))
