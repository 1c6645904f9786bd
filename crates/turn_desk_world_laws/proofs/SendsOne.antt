-- A channel number stands for one peer.
use Rattle.std.proofs.Common.{◌≡◌, ℕ, ◌+◌, ◌≤◌, List, [], ◌∷◌, refl, sym, ap, ◌∙◌, subst, arith, inl, inr}
use Rattle.std.proofs.lemmas.Bool.{eq-eqb}
use Rattle.std.specs.declared.net.socket_addr.SocketAddr.{SocketAddr}
use Rattle.turn_client_proto_messages.specs.StunTypesBase.declared.transport.TransportType.{TransportType}
use Rattle.turn_client_proto_messages.specs.Allocation.declared.allocation.Allocation.{Allocation}
use Rattle.turn_client_proto_messages.specs.Allocation.declared.channel.Channel.{Channel}
use Rattle.turn_client_proto_messages.specs.TurnRuns.Members.{IsIn}
use Rattle.turn_client_proto_core.specs.declared.protocol.Protocol.{Protocol}
use Rattle.turn_client_proto_step_laws.specs.Peers.Channel.Numbers.{AreDistinct, counted, is_numbered, uses}
use Rattle.turn_desk_world_laws.specs.Sending.{HasChannel}

module _ (number : ℕ) where
  -- A channel with the number is counted.
  count_more : (c : Channel) (cs : List Channel) → c.number ≡ number → counted (is_numbered number) (c ∷ cs) ≡ 1 + counted (is_numbered number) cs
  count_more c cs is = let same = eq-eqb c.number number is in rw same refl

  some_counted : (cs : List Channel) (c : Channel) → IsIn c cs → c.number ≡ number → 1 ≤ counted (is_numbered number) cs
  some_counted [] c i is = absurd i
  some_counted (x ∷ cs) c (inl same) is = let more = count_more x cs (ap (λ (y : Channel). y.number) same ∙ is) in omega (arith, more)
  some_counted (x ∷ cs) c (inr i) is = let rest = some_counted cs c i is in omega (arith, rest)

  one_in : (cs : List Channel) (c d : Channel) → IsIn c cs → IsIn d cs → c.number ≡ number → d.number ≡ number → counted (is_numbered number) cs ≤ 1 → c ≡ d
  one_in [] c d i j is as_well few = absurd i
  one_in (x ∷ cs) c d (inl one) (inl other) is as_well few = sym one ∙ other
  one_in (x ∷ cs) c d (inl one) (inr j) is as_well few =
      let more = count_more x cs (ap (λ (y : Channel). y.number) one ∙ is) in
      let some = some_counted cs d j as_well in
      absurd (omega (arith, more, some, few))
  one_in (x ∷ cs) c d (inr i) (inl other) is as_well few =
      let more = count_more x cs (ap (λ (y : Channel). y.number) other ∙ as_well) in
      let some = some_counted cs c i is in
      absurd (omega (arith, more, some, few))
  one_in (x ∷ cs) c d (inr i) (inr j) is as_well few = one_in cs c d i j is as_well (omega (arith, few))

  some_used : (all : List Allocation) (a : Allocation) (c : Channel) → IsIn a all → IsIn c a.channels → c.number ≡ number → 1 ≤ uses number all
  some_used [] a c i k is = absurd i
  some_used (x ∷ all) a c (inl same) k is = let some = some_counted x.channels c (subst (λ (y : Allocation). IsIn c y.channels) (sym same) k) is in omega (arith, some)
  some_used (x ∷ all) a c (inr i) k is = let rest = some_used all a c i k is in omega (arith, rest)

  one_of : (all : List Allocation) (a b : Allocation) (c d : Channel) → IsIn a all → IsIn b all → IsIn c a.channels → IsIn d b.channels → c.number ≡ number → d.number ≡ number → uses number all ≤ 1 → c ≡ d
  one_of [] a b c d i j k l is as_well few = absurd i
  one_of (x ∷ all) a b c d (inl one) (inl other) k l is as_well few =
      one_in x.channels c d (subst (λ (y : Allocation). IsIn c y.channels) (sym one) k) (subst (λ (y : Allocation). IsIn d y.channels) (sym other) l) is as_well (omega (arith, few))
  one_of (x ∷ all) a b c d (inl one) (inr j) k l is as_well few =
      let here = some_counted x.channels c (subst (λ (y : Allocation). IsIn c y.channels) (sym one) k) is in
      let there = some_used all b d j l as_well in
      absurd (omega (arith, here, there, few))
  one_of (x ∷ all) a b c d (inr i) (inl other) k l is as_well few =
      let here = some_counted x.channels d (subst (λ (y : Allocation). IsIn d y.channels) (sym other) l) as_well in
      let there = some_used all a c i k is in
      absurd (omega (arith, here, there, few))
  one_of (x ∷ all) a b c d (inr i) (inr j) k l is as_well few = one_of all a b c d i j k l is as_well (omega (arith, few))

pub one_peer : (p : Protocol) (transport over : TransportType) (number : ℕ) (peer other : SocketAddr) (now later : ℕ) → AreDistinct p.allocations → HasChannel p transport number peer now → HasChannel p over number other later → peer ≡ other
one_peer p transport over number peer other now later distinct is as_well =
    let same = one_of number p.allocations is.allocation as_well.allocation is.channel as_well.channel is.of as_well.of is.bound as_well.bound is.number_is as_well.number_is (distinct number) in
    sym is.to ∙ ap (λ (c : Channel). c.peer) same ∙ as_well.to
