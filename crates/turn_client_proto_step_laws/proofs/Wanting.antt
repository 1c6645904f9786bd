-- The channel that is to be renewed, by what is to be sent.
use Rattle.std.proofs.Common.{◌≡◌, ℕ, Bool, true, false, List, Option, Some, None, if◌then◌else◌, refl, sym, ap, ◌∙◌, subst}
use Rattle.std.specs.List.{find}
use Rattle.std.specs.Option.{option_and_then, option_map, option_or}
use Rattle.std.specs.declared.net.ip_addr.IpAddr.{IpAddr}
use Rattle.std.specs.declared.net.socket_addr.SocketAddr.{SocketAddr}
use Rattle.turn_client_proto_timers.specs.Allocation.Refreshing.{wants_refresh}
use Rattle.turn_client_proto_timers.specs.Allocation.Channels.{wants_renewal}
use Rattle.turn_client_proto_timers.specs.Peers.Channel.Wanting as channels
use Rattle.turn_client_proto_timers.specs.Peers.Permission.Wanting as permissions
use Rattle.turn_client_proto_timers.specs.Wanting.{want, wanted, wants}
use Rattle.turn_client_proto_timers.specs.declared.wanting.Want.TheVariants as what
use Rattle.turn_client_proto_step_laws.specs.Held.{Allocation, Channel}
use Rattle.turn_client_proto_step_laws.specs.RunClient.{Parts}
use Rattle.turn_client_proto_step_laws.specs.Sound.{IsOrderly, IsWhole}
use Rattle.turn_client_proto_step_laws.proofs.Lists.{found_in}

-- The first channel of an allocation that is to be renewed has this number and this peer.
pub record IsToRenew (now : ℕ) (a : Allocation) (channel : ℕ) (peer : SocketAddr) : Type 0 where
  pub first : Channel
  pub found : find (wants_renewal now) a.channels ≡ Some first
  pub number_is : first.number ≡ channel
  pub peer_is : first.peer ≡ peer

module _ (now : ℕ) (channel : ℕ) (peer : SocketAddr) where
  -- The channel is what is to be sent for the allocation.
  to_renew : (a : Allocation) → want now a ≡ Some (what.Channel channel peer) → IsToRenew now a channel peer
  unfolding want channels.renewal_wanted
  to_renew a h = by (wants_refresh now a) (permissions.occurs now a) (find (wants_renewal now) a.channels) (permissions.renewal_wanted now a) refl h
    where
      by : (refreshes occurs : Bool) (found : Option Channel) (ip : Option IpAddr) → find (wants_renewal now) a.channels ≡ found
          → (if refreshes then Some what.Refresh
          else option_or (option_map (λ (c : ℕ × SocketAddr). what.Channel c.0 c.1) (if occurs then option_map (λ (c : Channel). (c.number, c.peer)) found else None)) (option_map what.Permission ip)) ≡ Some (what.Channel channel peer)
          → IsToRenew now a channel peer
      by true occurs found ip at is = absurd (Prim.cc is)
      by false true (Some c) ip at is = record { first = c; found = at; number_is = Prim.cc is; peer_is = Prim.cc is }
      by false true None (Some ip) at is = absurd (Prim.cc is)
      by false true None None at is = absurd (Prim.cc is)
      by false false found (Some ip) at is = absurd (Prim.cc is)
      by false false found None at is = absurd (Prim.cc is)

  module _ (all : List Allocation) (is : wanted now all ≡ Some (what.Channel channel peer)) where
    -- The allocation is the first for which something is to be sent.
    pub first_to_renew : (a : Allocation) → find (wants now) all ≡ Some a → IsToRenew now a channel peer
    first_to_renew a found = to_renew a (sym (ap (option_and_then (want now)) found) ∙ is)

-- XOR-PEER-ADDRESS carries its peer completely.
pub renewal_whole : (now : ℕ) (channel : ℕ) (peer : SocketAddr) (p : Parts) → wanted now p.allocations ≡ Some (what.Channel channel peer) → IsOrderly p → IsWhole peer
renewal_whole now channel peer p is orderly = by (find (wants now) p.allocations) refl
  where
    by : (found : Option Allocation) → find (wants now) p.allocations ≡ found → IsWhole peer
    by None none = absurd (Prim.cc (sym (ap (option_and_then (want now)) none) ∙ is))
    by (Some a) at =
        let one = first_to_renew now channel peer p.allocations is a at in
        let listed = found_in (wants now) p.allocations a at in
        subst IsWhole one.peer_is ((orderly.peers a listed).standing one.first (found_in (wants_renewal now) a.channels one.first one.found))
