-- What is stored for one address after another one's request was stored before, if room was made or not.
use Rattle.std.proofs.Common.{◌≡◌, ◌≢◌, ℕ, ◌/◌, nat_lt, Bool, true, false, if◌then◌else◌, Option, Some, None, refl, sym, ap, ◌∙◌, cond}
use Rattle.std.specs.FinMap as map
use Rattle.std.specs.declared.net.socket_addr.SocketAddr.{SocketAddr}
use Rattle.rand_core.specs.Stream.{Stream}
use Rattle.stun_proto_verify.specs.Base.SocketAddrs.{socket_addr_cmp}
use Rattle.stun_proto_verify.specs.Knowledge.{Outcome}
use Rattle.stun_proto_server.specs.Server.{Client, Clients, Server, has_standing_nonce, is_full, is_validated, new_client, refreshed, room_for, staying_by, validated_clients, with_new_nonce, with_outcome}
use Rattle.stun_proto_server.proofs.Apart.{get-insert-other, outcome_others}
use Rattle.stun_proto_server.proofs.WithRoom.{get-retained}

module _ (clients : Clients) (other : SocketAddr) (stored : Client) where
  retained_before : (b : Bool) (found : Option Client) → cond b found None ≡ Some stored → found ≡ Some stored
  retained_before true found there = there
  retained_before false found there = absurd (Prim.cc there)

  staying_before : (b : Bool) → map.get (if b then map.empty else validated_clients clients) other ≡ Some stored → map.get clients other ≡ Some stored
  staying_before true there =
      let nothing : ◌≡◌ {A = Option Client} None (Some stored) = sym (map.get-empty socket_addr_cmp other) ∙ there in
      absurd (Prim.cc nothing)
  staying_before false there =
      retained_before (is_validated (map.get clients other)) (map.get clients other) (sym (get-retained clients (λ a. is_validated (map.get clients a)) other) ∙ there)

  room_before : (most : Option ℕ) (full : Bool) → map.get (if full then staying_by most clients else clients) other ≡ Some stored → map.get clients other ≡ Some stored
  room_before None true there = there
  room_before None false there = there
  room_before (Some most) true there = staying_before (nat_lt (most / 2) (map.len (validated_clients clients))) there
  room_before (Some most) false there = there

module _ (old : Server) (from other : SocketAddr) (now : ℕ) (stream : Stream) (different : other ≢ from) (stored : Client) where
  refreshed_before : map.get (refreshed old from now stream).clients other ≡ Some stored → map.get old.clients other ≡ Some stored
  refreshed_before =
      elim (has_standing_nonce old from now) as (λ (b : Bool). map.get (if b then old else with_new_nonce old from now stream).clients other ≡ Some stored → map.get old.clients other ≡ Some stored) [
        | true ↦ λ there. there
        | false ↦ λ there. room_before old.clients other stored old.max_clients (is_full old.max_clients old.clients from)
            (sym (get-insert-other (room_for old.max_clients old.clients from) from other (new_client old now stream) different) ∙ there)
      ]

  pub stored_before : (outcome : Option Outcome) → map.get (with_outcome (refreshed old from now stream) from outcome).clients other ≡ Some stored → map.get old.clients other ≡ Some stored
  stored_before outcome there =
      let same = outcome_others (refreshed old from now stream) (with_outcome (refreshed old from now stream) from outcome) from other outcome refl different in
      refreshed_before (sym same.stored ∙ there)
