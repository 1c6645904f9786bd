-- What refreshing the nonce of an address leaves.
use Rattle.std.specs.Prelude.{◌≡◌, ℕ, true, false, cond, Option, Some, None, IsSome}
use Rattle.std.proofs.Common.{refl, ap, ◌∙◌, inl, inr}
use Rattle.std.proofs.lemmas.Bool.{cases_Bool}
use Rattle.std.specs.Ordering.{is_eq}
use Rattle.std.specs.Option.{option_map}
use Rattle.std.specs.Cmp.{eq_by_cmp_equiv}
use Rattle.std.specs.FinMap as map
use Rattle.std.specs.declared.net.socket_addr.SocketAddr.{SocketAddr}
use Rattle.rand_core.specs.Stream.{Stream}
use Rattle.stun_types_base.specs.SocketAddrs.{socket_addr_cmp, socket_addr_cmp_total}
use Rattle.stun_proto_server.specs.Server.{Client, Server, nonce_at, is_standing, has_standing_nonce, new_client, refreshed, room_for}

nonce_of_some : (stored : Option Client) (expiry now : ℕ) → is_standing expiry now stored ≡ true → IsSome (option_map (λ (c : Client). c.nonce) stored)
nonce_of_some None expiry now h = absurd (let p : false ≡ true = h in cc)
nonce_of_some (Some stored) expiry now h = refl

-- After a refresh a nonce is stored for the address.
pub refreshed_nonce : (server : Server) (from : SocketAddr) (now : ℕ) (stream : Stream) → IsSome (nonce_at (refreshed server from now stream) from)
refreshed_nonce server from now stream =
    elim (cases_Bool (has_standing_nonce server from now)) [
      | inl occurs ↦ rw occurs (nonce_of_some (map.get server.clients from) server.nonce_expiry now occurs)
      | inr occurs ↦
          let same : is_eq (socket_addr_cmp from from) ≡ true = (eq_by_cmp_equiv socket_addr_cmp_total).refl from in
          let others = room_for server.max_clients server.clients from in
          let put = map.get-insert socket_addr_cmp_total others from (new_client server now stream) from in
          let stored : map.get (map.insert others from (new_client server now stream)) from ≡ Some (new_client server now stream) = put ∙ ap (λ b. cond b (Some (new_client server now stream)) (map.get others from)) same in
          rw occurs (rw stored refl)
    ]

-- A refresh leaves the realm unchanged.
pub refreshed_realm : (server : Server) (from : SocketAddr) (now : ℕ) (stream : Stream) → (refreshed server from now stream).realm ≡ server.realm
refreshed_realm server from now stream =
    elim (cases_Bool (has_standing_nonce server from now)) [
      | inl occurs ↦ rw occurs refl
      | inr occurs ↦ rw occurs refl
    ]

-- A refresh leaves the supported algorithms unchanged.
pub refreshed_algorithms : (server : Server) (from : SocketAddr) (now : ℕ) (stream : Stream) → (refreshed server from now stream).algorithms ≡ server.algorithms
refreshed_algorithms server from now stream =
    elim (cases_Bool (has_standing_nonce server from now)) [
      | inl occurs ↦ rw occurs refl
      | inr occurs ↦ rw occurs refl
    ]
