-- The outcome of a CONNECTION_ATTEMPT indication, by the index of the allocation that may have the connection.
use Rattle.std.proofs.Common.{◌≡◌, ◌≤◌, ◌<◌, ℕ, arith, Bool, true, false, List, length, Option, Some, None, get_or, position, slice_get, slice_set, refl, sym, ap, ◌∙◌}
use Rattle.std.proofs.lemmas.Bool.Decides.{nat_tests}
use Rattle.std.specs.Prelude.{find, nat_le, IfSome}
use Rattle.std.specs.declared.net.socket_addr.SocketAddr.{SocketAddr}
use Rattle.turn_client_proto_allocation.proofs.Changes.{at_index, changed_at, find_is, found_at}
use Rattle.turn_client_proto_allocation.specs.declared.allocation.Allocation.{Allocation}
use Rattle.turn_client_proto_connection.specs.Attempts.{is_joining, offered}
use Rattle.turn_client_proto_messages.specs.Reported.{connection_reported, peer_reported}
use Rattle.turn_client_proto_core.specs.Attempting.{after_offer, after_offer_in, after_offer_of, may_join, offers_limit}
use Rattle.turn_client_proto_core.specs.declared.protocol.Protocol.{Protocol}

-- A comparison, by its test.
pub tested_most : (most count : ℕ) → most ≤ count → nat_le most count ≡ true
tested_most most count h = grind (arith, nat_tests)

pub tested_room : (most count : ℕ) → count < most → nat_le most count ≡ false
tested_room most count h = grind (arith, nat_tests)

-- Nothing changes if no connection or no peer is named.
pub nameless : (bytes : List ℕ) (p : Protocol) → connection_reported bytes ≡ None → p ≡ after_offer bytes p
nameless bytes p none = sym (ap (λ (o : Option ℕ). after_offer_of o (peer_reported bytes) p) none)

pub peerless : (bytes : List ℕ) (p : Protocol) (connection : ℕ) → connection_reported bytes ≡ Some connection → peer_reported bytes ≡ None → p ≡ after_offer bytes p
peerless bytes p connection reported none = sym (
    ap (λ (o : Option ℕ). after_offer_of o (peer_reported bytes) p) reported
    ∙ ap (λ (o : Option SocketAddr). after_offer_of (Some connection) o p) none)

module _ (bytes : List ℕ) (p : Protocol) (connection : ℕ) (peer : SocketAddr) (reported : connection_reported bytes ≡ Some connection) (named : peer_reported bytes ≡ Some peer) where
  by_names : after_offer bytes p ≡ after_offer_in (find (may_join peer p) p.allocations) connection peer p
  by_names =
      ap (λ (o : Option ℕ). after_offer_of o (peer_reported bytes) p) reported
      ∙ ap (λ (o : Option SocketAddr). after_offer_of (Some connection) o p) named

  -- The outcome if no allocation may have the connection.
  pub nowhere : position (may_join peer p) p.allocations ≡ None → p ≡ after_offer bytes p
  nowhere at = sym (
      by_names
      ∙ ap (λ (o : Option Allocation). after_offer_in o connection peer p) (find_is (may_join peer p) p.allocations ∙ ap (at_index p.allocations) at))

  module _ (index : ℕ) (a : Allocation) (at : position (may_join peer p) p.allocations ≡ Some index) (read : a ≡ get_or p.allocations index a) where
    there : after_offer bytes p ≡ after_offer_in (Some a) connection peer p
    there = by_names ∙ ap (λ (o : Option Allocation). after_offer_in o connection peer p) (found_at (may_join peer p) p.allocations index a at read)

    -- How many connections wait, by a second look at the allocation.
    pub limit_at : (b : Allocation) → b ≡ get_or p.allocations index b → (count : ℕ) → count ≡ length b.waiting → (most : ℕ) (verdict : Bool)
        → most ≡ offers_limit p.max_connection_attempts → nat_le most count ≡ verdict → nat_le (offers_limit p.max_connection_attempts) (length a.waiting) ≡ verdict
    limit_at b again count counted most verdict limit is =
        let own : a ≡ b = Prim.cc (sym (found_at (may_join peer p) p.allocations index a at read) ∙ found_at (may_join peer p) p.allocations index b at again) in
        ap (λ (x : Allocation). nat_le (offers_limit p.max_connection_attempts) (length x.waiting)) own
        ∙ (ap (λ (n : ℕ). nat_le (offers_limit p.max_connection_attempts) n) (sym counted)
        ∙ (ap (λ (n : ℕ). nat_le n count) (sym limit) ∙ is))

    -- The outcome if there is a connection to the peer already.
    pub barred : is_joining peer a ≡ true → p ≡ after_offer bytes p
    barred joins = sym (there ∙ rw joins refl)

    -- The outcome if as many connections as are allowed wait.
    pub crowded : is_joining peer a ≡ false → nat_le (offers_limit p.max_connection_attempts) (length a.waiting) ≡ true → p ≡ after_offer bytes p
    crowded free full = sym (there ∙ rw (free, full) refl)

    -- The outcome if the connection is accepted.
    pub started : (new : List Allocation) → is_joining peer a ≡ false → nat_le (offers_limit p.max_connection_attempts) (length a.waiting) ≡ false → IfSome (slice_get p.allocations index) (λ x. new ≡ slice_set p.allocations index (offered connection peer x))
        → record p { allocations = new } ≡ after_offer bytes p
    started new free room is =
        ap (λ (l : List Allocation). record p { allocations = l }) (changed_at (may_join peer p) (offered connection peer) p.allocations new index at is)
        ∙ sym (there ∙ rw (free, room) refl)
