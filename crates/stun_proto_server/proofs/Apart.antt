-- A change for one address is not visible to another.
use Rattle.std.proofs.Common.{◌≡◌, ◌≢◌, ℕ, Bool, true, false, Option, Some, None, refl, ap, ◌∙◌, cond}
use Rattle.std.specs.Prelude.{if◌then◌else◌}
use Rattle.std.specs.FinMap as map
use Rattle.std.specs.Ordering.{is_eq, eq_by_cmp}
use Rattle.std.specs.declared.cmp.Ordering.{Ordering}
use Rattle.std.specs.declared.cmp.Ordering.TheVariants.{Less, Equal, Greater}
use Rattle.std.specs.declared.net.socket_addr.SocketAddr.{SocketAddr}
use Rattle.rand_core.specs.Stream.{Stream}
use Rattle.stun_proto_verify.specs.Knowledge.{Outcome}
use Rattle.stun_proto_server.specs.Server.{Client, Server, makes_room, room_for, set_outcome, staying_by, with_new_nonce, with_outcome, SameFor}
use Rattle.stun_proto_verify.specs.Base.SocketAddrs.{socket_addr_cmp, socket_addr_cmp_total, socket_addr_cmp-IsAntisymmetric}

-- A comparison that tests as equal is `Equal`.
pub tie : (answer : Ordering) → is_eq answer ≡ true → answer ≡ Equal
tie Less is = absurd (Prim.cc is)
tie Equal is = refl
tie Greater is = absurd (Prim.cc is)

-- Different addresses do not compare as equal.
pub apart : (other client : SocketAddr) → other ≢ client → eq_by_cmp socket_addr_cmp other client ≡ false
apart other client different =
    elim (eq_by_cmp socket_addr_cmp other client) as (λ b. eq_by_cmp socket_addr_cmp other client ≡ b → b ≡ false) [
      | true ↦ λ is. absurd (different (socket_addr_cmp-IsAntisymmetric other client (tie (socket_addr_cmp other client) is)))
      | false ↦ λ is. refl
    ] refl

-- Storing for one address leaves what is stored for another.
pub get-insert-other : (m : map.FinMap socket_addr_cmp Client) (client other : SocketAddr) (stored : Client) → other ≢ client
    → map.get (map.insert m client stored) other ≡ map.get m other
get-insert-other m client other stored different =
    map.get-insert socket_addr_cmp_total m client stored other ∙ ap (λ b. cond b (Some stored) (map.get m other)) (apart other client different)

-- Removing what is stored for one address leaves what is stored for another.
pub get-remove-other : (m : map.FinMap socket_addr_cmp Client) (client other : SocketAddr) → other ≢ client
    → map.get (map.remove m client) other ≡ map.get m other
get-remove-other m client other different =
    map.get-remove socket_addr_cmp_total m client other ∙ ap (λ b. cond b None (map.get m other)) (apart other client different)

-- No address can distinguish equal servers.
pub same_for-refl : (client : SocketAddr) (old new : Server) → new ≡ old → SameFor client old new
same_for-refl client old new same = record {
  realm = ap (λ s. s.realm) same;
  users = ap (λ s. s.users) same;
  nonce_expiry = ap (λ s. s.nonce_expiry) same;
  algorithms = ap (λ s. s.algorithms) same;
  anonymous_username = ap (λ s. s.anonymous_username) same;
  max_clients = ap (λ s. s.max_clients) same;
  stored = ap (λ s. map.get s.clients client) same;
}

-- If an address can't distinguish `old` from `middle`, it can't distinguish `old` from a server equal to
-- `middle`.
pub same_for-is : (client : SocketAddr) (old middle new : Server) → new ≡ middle → SameFor client old middle → SameFor client old new
same_for-is client old middle new is same = record {
  realm = ap (λ s. s.realm) is ∙ same.realm;
  users = ap (λ s. s.users) is ∙ same.users;
  nonce_expiry = ap (λ s. s.nonce_expiry) is ∙ same.nonce_expiry;
  algorithms = ap (λ s. s.algorithms) is ∙ same.algorithms;
  anonymous_username = ap (λ s. s.anonymous_username) is ∙ same.anonymous_username;
  max_clients = ap (λ s. s.max_clients) is ∙ same.max_clients;
  stored = ap (λ s. map.get s.clients client) is ∙ same.stored;
}

-- Removing an address is not visible to other addresses.
pub removed_others : (old new : Server) (client other : SocketAddr) → new ≡ record old { clients = map.remove old.clients client } → other ≢ client → SameFor other old new
removed_others old new client other is different = same_for-is other old (record old { clients = map.remove old.clients client }) new is (record {
  realm = refl;
  users = refl;
  nonce_expiry = refl;
  algorithms = refl;
  anonymous_username = refl;
  max_clients = refl;
  stored = get-remove-other old.clients client other different;
})

-- If no room is made for it, generating a nonce for an address is not visible to other addresses.
pub generated_others : (old new : Server) (from other : SocketAddr) (now : ℕ) (stream : Stream) → new ≡ with_new_nonce old from now stream → other ≢ from → makes_room old from ≡ false → SameFor other old new
generated_others old new from other now stream is different none = same_for-is other old (with_new_nonce old from now stream) new is (record {
  realm = refl;
  users = refl;
  nonce_expiry = refl;
  algorithms = refl;
  anonymous_username = refl;
  max_clients = refl;
  stored = get-insert-other (room_for old.max_clients old.clients from) from other _ different
      ∙ ap (λ (b : Bool). map.get (if b then staying_by old.max_clients old.clients else old.clients) other) none;
})

-- Indistinguishability for an address is transitive.
pub same_for-then : (client : SocketAddr) (old middle new : Server) → SameFor client old middle → SameFor client middle new → SameFor client old new
same_for-then client old middle new first second = record {
  realm = second.realm ∙ first.realm;
  users = second.users ∙ first.users;
  nonce_expiry = second.nonce_expiry ∙ first.nonce_expiry;
  algorithms = second.algorithms ∙ first.algorithms;
  anonymous_username = second.anonymous_username ∙ first.anonymous_username;
  max_clients = second.max_clients ∙ first.max_clients;
  stored = second.stored ∙ first.stored;
}

-- Storing an outcome for one address leaves what is stored for another.
get-outcome-other : (m : map.FinMap socket_addr_cmp Client) (client other : SocketAddr) (outcome : Option Outcome) (found : Option Client) → other ≢ client → map.get (set_outcome m client outcome found) other ≡ map.get m other
get-outcome-other m client other outcome None different = refl
get-outcome-other m client other outcome (Some stored) different = get-insert-other m client other _ different

-- Storing an outcome for an address is not visible to other addresses.
pub outcome_others : (old new : Server) (from other : SocketAddr) (outcome : Option Outcome) → new ≡ with_outcome old from outcome → other ≢ from → SameFor other old new
outcome_others old new from other outcome is different = same_for-is other old (with_outcome old from outcome) new is (record {
  realm = refl;
  users = refl;
  nonce_expiry = refl;
  algorithms = refl;
  anonymous_username = refl;
  max_clients = refl;
  stored = get-outcome-other old.clients from other outcome (map.get old.clients from) different;
})
