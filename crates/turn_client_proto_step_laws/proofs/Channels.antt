-- The channels of an allocation after each call correspond to those before it.
use Rattle.std.proofs.Common.{◌≡◌, ℕ, zero, suc, Bool, true, false, List, [], ◌∷◌, ◌++◌, Option, Some, None, if◌then◌else◌, map, refl, sym, subst, inl, inr}
use Rattle.std.specs.List.{filter, find, remove}
use Rattle.std.specs.declared.net.socket_addr.SocketAddr.{SocketAddr}
use Rattle.turn_client_proto_timers.specs.TurnRuns.Members.{IsIn}
use Rattle.turn_client_proto_timers.specs.TurnRuns.Messages as run
use Rattle.turn_client_proto_timers.specs.Allocation.Awaited.{asks_for_channel, is_among, renews_channel}
use Rattle.turn_client_proto_timers.specs.Allocation.Changes.{change_first}
use Rattle.turn_client_proto_timers.specs.Allocation.Channels.{requested_again, awaiting, polled_channel, renewed_channel, with_number}
use Rattle.turn_client_proto_timers.specs.Peers.Channel.Expiring.{without}
use Rattle.turn_client_proto_step_laws.specs.Held.{Channel, PendingChannel}
use Rattle.turn_client_proto_step_laws.proofs.Lists.{found_in, in_either, in_filter, in_first, in_map}
use Rattle.turn_client_proto_step_laws.proofs.Permitting.{AreBoundKin, AreWanted, Asking, IsBoundKin, IsWanted, bound_itself, wanted_itself}

-- What is left after an element was removed was there before.
in_remove : {X : Type 0} (x : X) (xs : List X) (index : ℕ) → IsIn x (remove xs index) → IsIn x xs
in_remove x [] zero h = h
in_remove x [] (suc index) h = h
in_remove x (y ∷ xs) zero h = inr h
in_remove x (y ∷ xs) (suc index) (inl same) = inl same
in_remove x (y ∷ xs) (suc index) (inr later) = inr (in_remove x xs index later)

pub in_without : {X : Type 0} (x : X) (xs : List X) (index : Option ℕ) → IsIn x (without xs index) → IsIn x xs
in_without x xs None h = h
in_without x xs (Some index) h = in_remove x xs index h

-- ---- those that are valid

module _ (Now : Asking) (old : List Channel) where
  -- The same channel with no request.
  kin_settled : (c : Channel) (expiry : ℕ) → IsIn c old → IsBoundKin Now old (record c { expiry = expiry; renewals = [] })
  kin_settled c expiry listed = record { before = c; listed = listed; number = refl; peer = refl; renewals = λ n has. absurd has }

  kin_polled : (over : Option ℕ) (c : Channel) → IsIn c old → IsBoundKin Now old (polled_channel over c)
  unfolding polled_channel
  kin_polled over c listed =
      elim (is_among over c.renewals) as (λ b. IsBoundKin Now old (if b then record c { renewals = [] } else c)) [
        | true ↦ kin_settled c c.expiry listed
        | false ↦ bound_itself Now old c listed
      ]

  kin_renewed : (number expiry : ℕ) (c : Channel) → IsIn c old → IsBoundKin Now old (renewed_channel number expiry c)
  unfolding renewed_channel
  kin_renewed number expiry c listed =
      elim (renews_channel number c) as (λ b. IsBoundKin Now old (if b then record c { expiry = expiry; renewals = [] } else c)) [
        | true ↦ kin_settled c expiry listed
        | false ↦ bound_itself Now old c listed
      ]

  -- Each channel that is left after one was removed.
  pub all_polled : (over index : Option ℕ) → AreBoundKin Now old (map (polled_channel over) (without old index))
  all_polled over index c listed =
      let image = in_map (polled_channel over) c (without old index) listed in
      subst (λ (x : Channel). IsBoundKin Now old x) (sym image.is) (kin_polled over image.source (in_without image.source old index image.listed))

  pub all_renewed : (number expiry : ℕ) → AreBoundKin Now old (map (renewed_channel number expiry) old)
  all_renewed number expiry c listed =
      let image = in_map (renewed_channel number expiry) c old listed in
      subst (λ (x : Channel). IsBoundKin Now old x) (sym image.is) (kin_renewed number expiry image.source image.listed)

  pub fewer : (keeps : Channel → Bool) → AreBoundKin Now old (filter keeps old)
  fewer keeps c listed = bound_itself Now old c (in_filter keeps c old listed).0

  -- One more request renews the channel.
  kin_awaiting : (number : ℕ) (c : Channel) → IsIn c old → Now (run.Channel c.number c.peer) number → IsBoundKin Now old (awaiting number c)
  kin_awaiting number c listed now = record {
    before = c;
    listed = listed;
    number = refl;
    peer = refl;
    renewals = λ n has. elim (in_either n c.renewals (number ∷ []) has) [
      | inl was ↦ inl was
      | inr own ↦ elim own [ inl same ↦ inr (subst (λ (k : ℕ). Now (run.Channel c.number c.peer) k) same now) | inr none ↦ absurd none ]
    ];
  }

  pub one_awaiting : (passes : Channel → Bool) (number : ℕ) → ((c : Channel) → find passes old ≡ Some c → Now (run.Channel c.number c.peer) number)
      → AreBoundKin Now old (change_first passes (awaiting number) old)
  one_awaiting passes number now c listed = elim (in_first passes (awaiting number) c old listed) [
    | inl was ↦ bound_itself Now old c was
    | inr changed ↦ subst (λ (x : Channel). IsBoundKin Now old x) (sym changed.2) (kin_awaiting number changed.0 (found_in passes old changed.0 changed.1) (now changed.0 changed.1))
  ]

-- ---- those that were requested

module _ (Now : Asking) (old : List PendingChannel) where
  pub fewer_wanted : (keeps : PendingChannel → Bool) → AreWanted Now old (filter keeps old)
  fewer_wanted keeps c listed = wanted_itself Now old c (in_filter keeps c old listed).0

  again_wanted : (number : ℕ) (c : PendingChannel) → IsIn c old → Now (run.Channel c.channel c.peer) number → IsWanted Now old (with_number number c)
  again_wanted number c listed now = record {
    was = inl (record { before = c; listed = listed; channel = refl; peer = refl });
    numbers = λ n has. elim (in_either n c.numbers (number ∷ []) has) [
      | inl was ↦ inl (record { before = c; listed = listed; channel_is = refl; peer = refl; has = was })
      | inr own ↦ elim own [ inl same ↦ inr (subst (λ (k : ℕ). Now (run.Channel c.channel c.peer) k) same now) | inr none ↦ absurd none ]
    ];
  }

  -- The first channel that a request asks for is requested once more.
  pub once_more : (before number : ℕ) → ((c : PendingChannel) → find (asks_for_channel before) old ≡ Some c → Now (run.Channel c.channel c.peer) number)
      → AreWanted Now old (requested_again before number old)
  once_more before number now c listed = elim (in_first (asks_for_channel before) (with_number number) c old listed) [
    | inl was ↦ wanted_itself Now old c was
    | inr changed ↦
        subst (λ (x : PendingChannel). IsWanted Now old x) (sym changed.2)
        (again_wanted number changed.0 (found_in (asks_for_channel before) old changed.0 changed.1) (now changed.0 changed.1))
  ]

  -- A channel is requested now.
  pub one_more : (channel : ℕ) (peer : SocketAddr) (number : ℕ) → Now (run.Channel channel peer) number
      → AreWanted Now old (old ++ record { channel = channel; peer = peer; numbers = number ∷ [] } ∷ [])
  one_more channel peer number now c listed =
      elim (in_either c old (record { channel = channel; peer = peer; numbers = number ∷ [] } ∷ []) listed) [
        | inl was ↦ wanted_itself Now old c was
        | inr own ↦ elim own [ inl same ↦ subst (λ (x : PendingChannel). IsWanted Now old x) same new | inr none ↦ absurd none ]
      ]
    where
      new : IsWanted Now old (record { channel = channel; peer = peer; numbers = number ∷ [] })
      new = record {
        was = inr (number, now);
        numbers = λ n has. elim has [ inl same ↦ inr (subst (λ (k : ℕ). Now (run.Channel channel peer) k) same now) | inr none ↦ absurd none ];
      }
