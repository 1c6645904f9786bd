-- The channels that a client lists are held.
use Rattle.std.proofs.Common.{◌≡◌, ℕ, false, List, [], ◌∷◌, refl, sym, subst, inl, inr}
use Rattle.std.proofs.lemmas.Bool.{cases_Bool}
use Rattle.std.specs.declared.net.socket_addr.SocketAddr.{SocketAddr}
use Rattle.turn_client_proto_timers.specs.TurnRuns.Members.{IsIn}
use Rattle.turn_client_proto_timers.specs.TurnRuns.Messages as run
use Rattle.turn_client_proto_timers.specs.Peers.Channel.Visible.{channels_of, channels_listed, pairs_of}
use Rattle.turn_client_proto_step_laws.specs.ClientWords.{Has, HasChannel, IsHeld}
use Rattle.turn_client_proto_step_laws.specs.Held.{Allocation, Channel}
use Rattle.turn_client_proto_step_laws.proofs.Lists.{in_either, in_map}

-- A channel that is listed of one allocation.
pair_held : (a : Allocation) (number : ℕ) (peer : SocketAddr) → IsIn (number, peer) (pairs_of (channels_of a)) → (a.is_expired ≡ false) × Has a (run.Channel number peer)
pair_held a number peer h = elim (cases_Bool a.is_expired) [
  | inl over ↦
      let none : channels_of a ≡ [] = rw over refl in
      absurd (subst (λ (l : List Channel). IsIn (number, peer) (pairs_of l)) none h)
  | inr occurs ↦
      let all : channels_of a ≡ a.channels = rw occurs refl in
      let image = in_map (λ (c : Channel). (c.number, c.peer)) (number, peer) a.channels (subst (λ (l : List Channel). IsIn (number, peer) (pairs_of l)) all h) in
      (occurs, subst (λ (p : ℕ × SocketAddr). Has a (run.Channel p.0 p.1)) (sym image.is) (HasChannel image.source image.listed))
]

pub channel_held : (allocations : List Allocation) (number : ℕ) (peer : SocketAddr) → IsIn (number, peer) (channels_listed allocations) → IsHeld allocations (run.Channel number peer)
channel_held [] number peer h = absurd h
channel_held (a ∷ rest) number peer h = elim (in_either (number, peer) (pairs_of (channels_of a)) (channels_listed rest) h) [
  | inl here ↦
      let own = pair_held a number peer here in
      record { allocation = a; listed = inl refl; occurs = own.0; has = own.1 }
  | inr later ↦
      let is = channel_held rest number peer later in
      record { allocation = is.allocation; listed = inr is.listed; occurs = is.occurs; has = is.has }
]
