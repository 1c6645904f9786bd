-- No two channels that a client lists have the same number, if no two that it stores do.
use Rattle.std.proofs.Common.{◌≡◌, ◌≤◌, ℕ, ◌+◌, Bool, List, [], ◌∷◌, ◌++◌, eqb, length, refl, arith, inl, inr}
use Rattle.std.proofs.lemmas.Bool.{cases_Bool}
use Rattle.std.specs.List.{filter}
use Rattle.std.specs.declared.net.socket_addr.SocketAddr.{SocketAddr}
use Rattle.turn_client_proto_allocation.specs.declared.allocation.Allocation.{Allocation}
use Rattle.turn_client_proto_allocation.specs.declared.channel.Channel.{Channel}
use Rattle.turn_client_proto_peers.specs.Channel.Numbers.{AreDistinct, counted, is_numbered, uses}
use Rattle.turn_client_proto_peers.specs.Channel.Visible.{channels_of, channels_listed, pairs_of}

-- The number of elements of two joined lists that satisfy a predicate is the sum of the two numbers.
passes_both : {X : Type 0} (p : X → Bool) (head following : List X) → length (filter p (head ++ following)) ≡ length (filter p head) + length (filter p following)
passes_both p [] following = omega arith
passes_both p (x ∷ head) following =
    let later = passes_both p head following in
    elim (cases_Bool (p x)) [ inl is ↦ rw is (omega (arith, later)) | inr not ↦ rw not (omega (arith, later)) ]

module _ (number : ℕ) where
  -- A pair has this channel number.
  abbrev has_it : ℕ × SocketAddr → Bool
  has_it p = eqb p.0 number

  -- As many pairs have this number as channels do.
  as_many : (channels : List Channel) → length (filter has_it (pairs_of channels)) ≡ counted (is_numbered number) channels
  as_many [] = refl
  as_many (c ∷ channels) =
      let later = as_many channels in
      elim (cases_Bool (eqb c.number number)) [ inl is ↦ rw is (omega (arith, later)) | inr not ↦ rw not (omega (arith, later)) ]

  few_of : (a : Allocation) → length (filter has_it (pairs_of (channels_of a))) ≤ counted (is_numbered number) a.channels
  few_of a = elim (cases_Bool a.is_expired) [
    | inl over ↦ rw over (omega arith)
    | inr occurs ↦ let same = as_many a.channels in rw occurs (omega (arith, same))
  ]

  few_listed : (all : List Allocation) → length (filter has_it (channels_listed all)) ≤ uses number all
  few_listed [] = omega arith
  few_listed (a ∷ rest) =
      let both = passes_both has_it (pairs_of (channels_of a)) (channels_listed rest) in
      let here = few_of a in
      let later = few_listed rest in
      omega (arith, both, here, later)

  -- If the channels have distinct numbers, at most one channel with this number is listed.
  pub listed_once : (all : List Allocation) → AreDistinct all → length (filter has_it (channels_listed all)) ≤ 1
  listed_once all distinct =
      let few = few_listed all in
      let one = distinct number in
      omega (arith, few, one)

-- The empty list of allocations has distinct channel numbers.
pub none_distinct : AreDistinct []
none_distinct number = omega arith
