-- The outcome of a CONNECTION_ATTEMPT, by the index of the allocation that may have the connection.
use Rattle.std.proofs.Common.{◌≡◌, ℕ, Bool, true, false, List, length, Option, Some, None, get_or, position, slice_get, slice_set, refl, sym, ap, ◌∙◌}
use Rattle.std.specs.Prelude.{find, IfSome}
use Rattle.std.specs.declared.net.socket_addr.SocketAddr.{SocketAddr}
use Rattle.stun_types_base.specs.Family.{family_of_socket}
use Rattle.stun_types_wire.specs.Grammar.{number_at}
use Rattle.stun_types_base.specs.declared.family.AddressFamily.{AddressFamily}
use Rattle.stun_types_base.specs.declared.transport.TransportType.{TransportType}
use Rattle.turn_client_proto_allocation.proofs.Changes.{at_index, changed_at, find_is, found_at}
use Rattle.turn_client_proto_allocation.specs.declared.allocation.Allocation.{Allocation}
use Rattle.turn_client_proto_connection.specs.Attempts.{attempted, is_joining}
use Rattle.turn_client_proto_peers.specs.Permission.Asking.{is_of}
use Rattle.turn_client_proto_messages.specs.declared.answer.AttemptAnswer.TheVariants.{AlreadyExists, BadRequest, Failed}
use Rattle.turn_client_proto_messages.specs.Reported.{connection_reported, peer_reported}
use Rattle.turn_client_proto_core.specs.Attempting.{after_attempt, after_attempt_in, after_attempt_of, is_at_limit, may_join, rejecting}
use Rattle.turn_client_proto_core.specs.declared.protocol.Protocol.{Protocol}

-- The index, by the transport, family and list that it was searched with.
pub index_by : (p : Protocol) (peer : SocketAddr) (transport : TransportType) (family : AddressFamily) (all : List Allocation) (found index : Option ℕ)
    → transport ≡ p.agent.transport → family ≡ family_of_socket peer → all ≡ p.allocations → found ≡ position (is_of transport family) all → found ≡ index → position (may_join peer p) p.allocations ≡ index
index_by p peer transport family all found index t f a is at = sym (is ∙ (λ i. position (is_of (t i) (f i)) (a i))) ∙ at

module _ (bytes : List ℕ) (p : Protocol) (connection : ℕ) (peer : SocketAddr) (number : ℕ) (reported : connection_reported bytes ≡ Some connection) (named : peer_reported bytes ≡ Some peer) (number_is : number ≡ number_at bytes) where
  by_names : after_attempt bytes p ≡ after_attempt_in (find (may_join peer p) p.allocations) connection peer number p
  by_names =
      ap (λ (o : Option ℕ). after_attempt_of o (peer_reported bytes) (number_at bytes) p) reported
      ∙ ap (λ (o : Option SocketAddr). after_attempt_of (Some connection) o (number_at bytes) p) named
      ∙ ap (λ (n : ℕ). after_attempt_in (find (may_join peer p) p.allocations) connection peer n p) (sym number_is)

  by_index : (index : Option ℕ) → position (may_join peer p) p.allocations ≡ index → after_attempt bytes p ≡ after_attempt_in (at_index p.allocations index) connection peer number p
  by_index index at =
      by_names
      ∙ ap (λ (o : Option Allocation). after_attempt_in o connection peer number p) (find_is (may_join peer p) p.allocations ∙ ap (at_index p.allocations) at)

  -- The outcome if no allocation may have the connection.
  pub nowhere : position (may_join peer p) p.allocations ≡ None → rejecting BadRequest number p ≡ after_attempt bytes p
  nowhere at = sym (by_index None at)

  module _ (index : ℕ) (a : Allocation) (at : position (may_join peer p) p.allocations ≡ Some index) (read : a ≡ get_or p.allocations index a) where
    there : after_attempt bytes p ≡ after_attempt_in (Some a) connection peer number p
    there = by_names ∙ ap (λ (o : Option Allocation). after_attempt_in o connection peer number p) (found_at (may_join peer p) p.allocations index a at read)

    -- How many connections wait, by a second look at the allocation.
    pub limit_at : (b : Allocation) → b ≡ get_or p.allocations index b → (count : ℕ) → count ≡ length b.waiting → (full verdict : Bool)
        → full ≡ is_at_limit p.max_connection_attempts count → full ≡ verdict → is_at_limit p.max_connection_attempts (length a.waiting) ≡ verdict
    limit_at b again count counted full verdict tested is =
        let own : a ≡ b = Prim.cc (sym (found_at (may_join peer p) p.allocations index a at read) ∙ found_at (may_join peer p) p.allocations index b at again) in
        ap (λ (x : Allocation). is_at_limit p.max_connection_attempts (length x.waiting)) own
        ∙ (ap (λ (n : ℕ). is_at_limit p.max_connection_attempts n) (sym counted) ∙ (sym tested ∙ is))

    -- The outcome if there is a connection to the peer already.
    pub barred : is_joining peer a ≡ true → rejecting AlreadyExists number p ≡ after_attempt bytes p
    barred joins = sym (there ∙ rw joins refl)

    -- The outcome if as many connections as the limit allows wait.
    pub crowded : is_joining peer a ≡ false → is_at_limit p.max_connection_attempts (length a.waiting) ≡ true → rejecting Failed number p ≡ after_attempt bytes p
    crowded free full = sym (there ∙ rw (free, full) refl)

    -- The outcome if the connection is accepted.
    pub started : (new : List Allocation) → is_joining peer a ≡ false → is_at_limit p.max_connection_attempts (length a.waiting) ≡ false → IfSome (slice_get p.allocations index) (λ x. new ≡ slice_set p.allocations index (attempted connection peer number x))
        → record p { allocations = new } ≡ after_attempt bytes p
    started new free room is =
        ap (λ (l : List Allocation). record p { allocations = l }) (changed_at (may_join peer p) (attempted connection peer number) p.allocations new index at is)
        ∙ sym (there ∙ rw (free, room) refl)
