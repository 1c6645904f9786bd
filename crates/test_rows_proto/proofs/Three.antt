-- A run of three calls.
use Rattle.std.proofs.Common.{◌≡◌, ◌≢◌, ℕ, List, [], ◌∷◌, Bool, true, false, None, refl, sym, ap, ◌∙◌, subst}
use Rattle.std.specs.Option.{option_map}
use Rattle.std.specs.declared.net.socket_addr.SocketAddr.{SocketAddr}
use Rattle.rand_core.specs.Stream.{Stream}
use Rattle.stun_proto_server.specs.AuthCalls.{AuthAnswer, AuthCall, IsCalled}
use Rattle.stun_proto_server.specs.AuthCalls as call
use Rattle.stun_proto_server.specs.AuthRuns.{IsAuthRun, IsIsolated, MakeNoRoom, SetNoLimit, concerning, concerns, is_same_address}
use Rattle.stun_proto_server.specs.Server.{Client, SameFor, Server, nonce_at, refreshed}
use Rattle.stun_proto_server.proofs.Alone.{filter_no, filter_yes}
use Rattle.stun_proto_server.proofs.Apart.{apart, same_for-refl}
use Rattle.stun_proto_server.proofs.Isolated.{same_itself}

-- The pair concerns this address.
abbrev test : SocketAddr → AuthCall × AuthAnswer → Bool
test address = λ pair. concerns address pair.0

-- Three calls, each on the server that the call before it left, are a run.
pub three : (old one two new : Server) (first second third : AuthCall × AuthAnswer) → IsCalled first.0 first.1 old one → IsCalled second.0 second.1 one two → IsCalled third.0 third.1 two new
    → IsAuthRun old (first ∷ second ∷ third ∷ []) new
unfolding IsAuthRun
three old one two new first second third a b c = (one, a, (two, b, (new, c, refl)))

-- ---- for two addresses

-- The statements of the theorem on runs.
abbrev pub Alone : Type 0
Alone = (address : SocketAddr) (old other new : Server) (pairs : List (AuthCall × AuthAnswer)) → SameFor address old other → (run : IsAuthRun old pairs new) → MakeNoRoom address old pairs new run → IsIsolated address other pairs new

abbrev pub Unlimited : Type 0
Unlimited = (address : SocketAddr) (old new : Server) (pairs : List (AuthCall × AuthAnswer)) → old.max_clients ≡ None → SetNoLimit pairs → (run : IsAuthRun old pairs new) → MakeNoRoom address old pairs new run

module _ (one other : SocketAddr) (now : ℕ) (stream left again remains : Stream) where
  -- The run: the nonce of `one` is refreshed, then that of `other`, and then `other` is removed.
  abbrev pub pairs : List (AuthCall × AuthAnswer)
  pairs = (call.Refresh one now stream, call.Refreshed left) ∷ (call.Refresh other now again, call.Refreshed remains) ∷ (call.RemoveClient other, call.Done) ∷ []

  -- Only the first call concerns `one`.
  own_calls : one ≢ other → concerning one pairs ≡ (call.Refresh one now stream, call.Refreshed left) ∷ []
  own_calls different =
      let own : is_same_address one one ≡ true = same_itself one in
      let its : is_same_address one other ≡ false = apart one other different in
      filter_yes (test one) (call.Refresh one now stream, call.Refreshed left) ((call.Refresh other now again, call.Refreshed remains) ∷ (call.RemoveClient other, call.Done) ∷ []) own
      ∙ ap (λ (l : List (AuthCall × AuthAnswer)). (call.Refresh one now stream, call.Refreshed left) ∷ l)
      (filter_no (test one) (call.Refresh other now again, call.Refreshed remains) ((call.RemoveClient other, call.Done) ∷ []) its ∙ filter_no (test one) (call.RemoveClient other, call.Done) [] its)

  run_of_one : (old after : Server) → IsAuthRun old ((call.Refresh one now stream, call.Refreshed left) ∷ []) after → after ≡ refreshed old one now stream
  unfolding IsAuthRun
  run_of_one old after run = run.2 ∙ run.1.1

  -- Without a limit on addresses, the nonce of `one` is what it would be if `other` had never called.
  pub own_nonce : Alone → Unlimited → (old new : Server) → one ≢ other → old.max_clients ≡ None → IsAuthRun old pairs new → nonce_at new one ≡ nonce_at (refreshed old one now stream) one
  own_nonce law unlimited old new different none run =
      let alone = law one old old new pairs (same_for-refl one old old refl) run (unlimited one old new pairs none (tt, (tt, (tt, tt))) run) in
      let own = subst (λ (l : List (AuthCall × AuthAnswer)). IsAuthRun old l alone.left) (own_calls different) alone.run in
      sym (ap (option_map (λ (stored : Client). stored.nonce)) alone.alike.stored) ∙ ap (λ (s : Server). nonce_at s one) (run_of_one old alone.left own)
