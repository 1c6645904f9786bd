-- A getter returns a connection after some requests. If the run has an account, the server core granted that
-- very connection, by a CONNECT to its peer and a CONNECTION_BIND of its connection ID. If it did, there is
-- an account.
use Rattle.std.proofs.Common.{◌≡◌, ℕ, zero, suc, ◌≤◌, List, map, refl, inl, inr, arith}
use Rattle.turn_runs.specs.Headline.{IsOfferedAt, ShowsTraced, Unless, WasOffered}
use Rattle.turn_runs.specs.Members.{IsIn}
use Rattle.turn_runs.specs.Messages.{Connection, GrantIs, Holds, Knows}
use Rattle.turn_runs.specs.Names.{SocketAddr}
use Rattle.turn_runs.specs.Runs.{Step, AtClient, AtDesk, AtEach, IsCounted}
use Rattle.turn_runs.specs.Steps.{Reported}
use Rattle.turn_runs_laws.proofs.Tools.{from_some, in_right}
use Rattle.turn_runs_laws.specs.Handshakes.{Addresses, grant_at, held_after, reported_at}
use Rattle.turn_runs_laws.specs.Rounds.{fresh}
use Rattle.turn_runs_laws.specs.SmallWords.{Client, small}
use Rattle.turn_runs_laws.specs.Ungranted.{AreSafe, IsJoined, forget, shows_connection}
use Rattle.turn_runs_laws.proofs.Bound.{account, granted_early, traced_before}

module _ (a : Addresses) where
  -- Exactly one grant is of a CONNECTION_BIND, and one of a CONNECT.
  the_bind : (d number : ℕ) (local peer : SocketAddr) → GrantIs (grant_at a d) (Holds (Connection local peer number)) →
      (d ≡ 4) × (number ≡ 7)
  the_bind zero number local peer is = absurd (omega (arith, is.0))
  the_bind (suc zero) number local peer is = absurd (omega (arith, is.0))
  the_bind (suc (suc zero)) number local peer is = absurd (omega (arith, is.0))
  the_bind (suc (suc (suc zero))) number local peer is = absurd (omega (arith, is.0))
  the_bind (suc (suc (suc (suc zero)))) number local peer is = (refl, cc)
  the_bind (suc (suc (suc (suc (suc d))))) number local peer is = absurd (omega (arith, is.0))

  the_connect : (d number : ℕ) (peer : SocketAddr) → GrantIs (grant_at a d) (Knows number peer) → peer ≡ a.peer
  the_connect zero number peer is = absurd (omega (arith, is.0))
  the_connect (suc zero) number peer is = absurd (omega (arith, is.0))
  the_connect (suc (suc zero)) number peer is = absurd (omega (arith, is.0))
  the_connect (suc (suc (suc zero))) number peer is = cc
  the_connect (suc (suc (suc (suc zero)))) number peer is = absurd (omega (arith, is.0))
  the_connect (suc (suc (suc (suc (suc d))))) number peer is = absurd (omega (arith, is.0))

  -- The small client accepts no indications.
  no_offer : (number : ℕ) (peer : SocketAddr) (s : Step Client ℕ) (earlier : List (Step Client ℕ)) → IsOfferedAt (small a) number peer s earlier → ⊥
  no_offer number peer (AtClient call) earlier is = is.accepts
  no_offer number peer (AtDesk d) earlier is = is

  none_offered : (number : ℕ) (peer : SocketAddr) (run : List (Step Client ℕ)) → WasOffered (small a) run number peer → ⊥
  none_offered number peer run offered = from_some (IsOfferedAt (small a) number peer) ⊥ (no_offer number peer) run offered

  joined_by : (n : ℕ) (local : SocketAddr) (number : ℕ) (peer : SocketAddr) (run : List (Step Client ℕ)) (last : Client) → n ≤ 16 →
      map forget run ≡ shows_connection a n local number peer → IsCounted (small a) fresh run last →
      Unless (small a) fresh run last (AtEach (ShowsTraced (small a)) run) → IsJoined a n number peer
  joined_by n local number peer run last few reported counts visible =
      let traced = traced_before a n (Connection local peer number) run last few reported counts visible in
      let bind = granted_early a n traced.0 (Connection local peer number) (Holds (Connection local peer number)) run reported traced.1.0 in
      let fifth = the_bind bind.0 number local peer bind.2 in
      elim traced.1.1 [
        | inl known ↦
            let connect = granted_early a n known.0 (Connection local peer number) (Knows number peer) run reported known.1 in
            record { granted = omega (arith, bind.1, fifth.0); number_is = fifth.1; peer_is = the_connect connect.0 number peer connect.2 }
        | inr offered ↦ absurd (none_offered number peer run offered)
      ]

  pub joined_where_listed : (n : ℕ) (local : SocketAddr) (number : ℕ) (peer : SocketAddr) → n ≤ 16 →
      AreSafe a fresh (shows_connection a n local number peer) → IsJoined a n number peer
  joined_where_listed n local number peer few is = joined_by n local number peer is.run is.last few is.reported is.counted is.visible

  held_from : (k : ℕ) → IsIn (Connection a.local a.peer 7) (held_after a (suc (suc (suc (suc (suc k))))))
  held_from zero = inl refl
  held_from (suc k) =
      in_right (Connection a.local a.peer 7) (map (λ (t : Reported). t.held) (reported_at a (suc (suc (suc (suc (suc k)))))))
      (held_after a (suc (suc (suc (suc (suc k)))))) (held_from k)

  held_following : (n : ℕ) → 5 ≤ n → IsIn (Connection a.local a.peer 7) (held_after a n)
  held_following zero le = absurd (omega (arith, le))
  held_following (suc zero) le = absurd (omega (arith, le))
  held_following (suc (suc zero)) le = absurd (omega (arith, le))
  held_following (suc (suc (suc zero))) le = absurd (omega (arith, le))
  held_following (suc (suc (suc (suc zero)))) le = absurd (omega (arith, le))
  held_following (suc (suc (suc (suc (suc k))))) le = held_from k

  pub listed_where_joined : (n : ℕ) → 5 ≤ n → AreSafe a fresh (shows_connection a n a.local 7 a.peer)
  listed_where_joined n le = account a n (Connection a.local a.peer 7) (held_following n le)
