-- After a socket was closed, no connection with its own address is left (RFC 6062, section 4.6).
use Rattle.std.proofs.Common.{◌≡◌, ℕ, Bool, true, false, if◌then◌else◌, List, map, not, refl, sym, ap, ◌∙◌, subst}
use Rattle.std.specs.List.{filter}
use Rattle.std.specs.declared.net.socket_addr.SocketAddr.{SocketAddr}
use Rattle.turn_client_proto_timers.specs.StunTypesBase.declared.transport.TransportType.TheVariants.{Tcp}
use Rattle.turn_client_proto_recv.specs.Closing.{after_close, is_joined, without}
use Rattle.turn_client_proto_timers.specs.Connection.Sockets.{closed, has_from, is_any_from, is_from}
use Rattle.turn_client_proto_timers.specs.TurnRuns.Messages as run
use Rattle.turn_client_proto_timers.specs.Core.declared.protocol.Protocol.{Protocol}
use Rattle.turn_client_proto_step_laws.specs.ClientWords.{Has, HasChannel, HasConnection, HasItself, HasPermission, IsStored}
use Rattle.turn_client_proto_step_laws.specs.Held.{Allocation, Connection}
use Rattle.turn_client_proto_step_laws.proofs.Lists.{any_passes, in_filter, in_map, passes_one}
use Rattle.turn_client_proto_step_laws.proofs.SameSockets.{same_itself}

-- The connection that an allocation has is found there by its own address.
abbrev IsFound : Allocation → run.Held → Type 0
IsFound a (run.Allocation transport address) = Unit {0}
IsFound a (run.Permission transport ip) = Unit {0}
IsFound a (run.Channel number peer) = Unit {0}
IsFound a (run.Connection here peer number) = has_from here a ≡ true

found : (a : Allocation) (h : run.Held) → Has a h → IsFound a h
found a _ HasItself = tt
found a _ (HasPermission p listed) = tt
found a _ (HasChannel c listed) = tt
found a _ (HasConnection c listed bound) = any_passes (is_from c.here) a.connections c listed (same_itself c.here)

stored_from : (here peer : SocketAddr) (number : ℕ) (all : List Allocation) → IsStored all (run.Connection here peer number) → is_any_from here all ≡ true
stored_from here peer number all stored = any_passes (has_from here) all stored.allocation stored.listed (found stored.allocation (run.Connection here peer number) stored.has)

none_from : (here : SocketAddr) (a : Allocation) → has_from here (closed here a) ≡ true → ⊥
unfolding closed
none_from here a is =
    let one = passes_one (is_from here) (filter (λ c. not (is_from here c)) a.connections) is in
    let apart = (in_filter (λ (c : Connection). not (is_from here c)) one.one a.connections one.listed).1 in
    let never : ⊥ = Prim.cc (sym apart ∙ ap not one.passes) in never

none_left : (here : SocketAddr) (old : Protocol) → is_any_from here (without here old).allocations ≡ true → ⊥
unfolding without
none_left here old is =
    let one = passes_one (has_from here) (map (closed here) old.allocations) is in
    let image = in_map (closed here) one.one old.allocations one.listed in
    none_from here image.source (subst (λ (a : Allocation). has_from here a ≡ true) image.is one.passes)

pub none_over : (old new : Protocol) (here peer : SocketAddr) (number : ℕ) → old.agent.transport ≡ Tcp → new ≡ after_close here old.server old → IsStored new.allocations (run.Connection here peer number) → ⊥
none_over old new here peer number tcp is stored =
    by (is_joined here old.server old) refl (subst (λ (p : Protocol). is_any_from here p.allocations ≡ true) is (stored_from here peer number new.allocations stored))
  where
    by : (b : Bool) → is_joined here old.server old ≡ b → is_any_from here (if b then without here old else old).allocations ≡ true → ⊥
    by true at any = none_left here old any
    by false at any =
        let joined : is_joined here old.server old ≡ true = rw (tcp, same_itself old.server, any) refl in
        let never : ⊥ = Prim.cc (sym at ∙ joined) in never
