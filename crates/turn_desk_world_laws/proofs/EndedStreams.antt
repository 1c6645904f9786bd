-- A chunk of no bytes on the socket of a connection leaves no connection with its local address.
use Rattle.std.proofs.Common.{◌≡◌, ◌≢◌, ◌==◌, ℕ, Bool, true, false, if◌then◌else◌, List, [], ◌∷◌, length, map, not, Option, Some, None, Vec, Global, refl, sym, ap, ◌∙◌, subst, inl, inr}
use Rattle.std.proofs.lemmas.Bool.{cases_Bool}
use Rattle.std.specs.Prelude.{MatchOption, option_and_then}
use Rattle.std.specs.List.{find, list_any}
use Rattle.std.specs.Borrow.{Bor}
use Rattle.std.specs.declared.net.socket_addr.SocketAddr.{SocketAddr}
use Rattle.turn_desk_core.specs.StunTypesBase.declared.transmit.Transmit.{Transmit}
use Rattle.turn_desk_core.specs.StunTypesBase.declared.transport.TransportType.TheVariants.{Tcp}
use Rattle.turn_client_proto_messages.specs.TurnRuns.Members.{IsIn}
use Rattle.turn_client_proto_api.specs.declared.answer.TurnRecvRet.{TurnRecvRet}
use Rattle.turn_client_proto_step_laws.specs.ClientWords.{Has, HasChannel, HasConnection, HasItself, HasPermission}
use Rattle.turn_client_proto_step_laws.specs.Connection.Sockets.{closed, has_from, is_any_from, is_from}
use Rattle.turn_client_proto_step_laws.specs.Connection.Streams.{from, from_in}
use Rattle.turn_client_proto_step_laws.specs.Held.{Allocation, Connection}
use Rattle.turn_client_proto_step_laws.specs.Recv.ClientState.{ClientState, Protocol}
use Rattle.turn_client_proto_step_laws.specs.Recv.Closing.{after_close, is_joined, without}
use Rattle.turn_client_proto_step_laws.specs.Recv.Control.{Control, Datagrams, Open, Closed}
use Rattle.turn_client_proto_step_laws.specs.Recv.Datagrams.{IsGivenBack}
use Rattle.turn_client_proto_step_laws.specs.Recv.Receipts.{Chunk, End, IsReceivedBy, IsStreamed, Strange}
use Rattle.turn_client_proto_step_laws.specs.Recv.SocketChunks.{Closes, IsEnded, IsReceivedAt, IsTakenBy, LostEnd, socket_of}
use Rattle.turn_client_proto_step_laws.proofs.Lists.{any_passes, found_passes, in_filter, in_map, inside}
use Rattle.turn_client_proto_step_laws.proofs.SameSockets.{same_itself}
use Rattle.turn_client_proto_step_laws.proofs.Polling.{by_test}
use Rattle.turn_desk_event.specs.TurnTypesFrame.Streams.{Stream}
use Rattle.turn_desk_step_laws.specs.TurnClientProtoAllocation.Same.{is_same_address}
use Rattle.turn_desk_step_laws.specs.TurnRuns.Messages as run
use Rattle.turn_desk_event.specs.declared.answer.Answer.{Answer}
use Rattle.turn_desk_event.specs.declared.event.Event.TheVariants as event
use Rattle.turn_desk_world_laws.specs.Ends.{HasNoneOver}
use Rattle.turn_desk_world_laws.specs.Reported.{is_over_tcp}
use Rattle.turn_desk_world.specs.Calls.{IsFed, IsReported}
use Rattle.turn_desk_world.specs.Model.{World}
use Rattle.turn_desk_world.specs.Runs.{IsAtClient, IsInRange, IsStep, is_in_range}
use Rattle.turn_desk_world_laws.proofs.AtSocket.{one_socket}
use Rattle.turn_desk_world_laws.specs.Ended.{AreNoneAt, HasNoneAt, MayConnect}

-- ---- none is listed

-- A connection with this local address is found by it.
is_found : (here : SocketAddr) (all : List Allocation) (a : Allocation) → IsIn a all → (c : Connection) → IsIn c a.connections → c.here ≡ here → is_any_from here all ≡ true
is_found here all a listed c there at =
    any_passes (has_from here) all a listed
    (any_passes (is_from here) a.connections c there (subst (λ (h : SocketAddr). is_from here (record c { here = h }) ≡ true) (sym at) (same_itself here)))

pub none_found : (here : SocketAddr) (all : List Allocation) → is_any_from here all ≡ false → AreNoneAt here all
none_found here all none a listed c there at = let never : ⊥ = Prim.cc (sym (is_found here all a listed c there at) ∙ none) in never

-- What some element passes is found.
any_found : {X : Type 0} (p : X → Bool) (xs : List X) → list_any p xs ≡ true → find p xs ≡ None → ⊥
any_found p [] is none = let never : ⊥ = Prim.cc is in never
any_found p (x ∷ xs) is none = elim (cases_Bool (p x)) [
  | inl passes ↦
      let here : find p (x ∷ xs) ≡ Some x = rw passes refl in
      let never : ⊥ = Prim.cc (sym here ∙ none) in never
  | inr fails ↦
      let later : find p (x ∷ xs) ≡ find p xs = rw fails refl in
      let still : list_any p (x ∷ xs) ≡ list_any p xs = rw fails refl in
      any_found p xs (sym still ∙ is) (sym later ∙ none)
]

-- The first allocation with such a connection has it.
none_there : (here : SocketAddr) (all : List Allocation) → from here all ≡ None → is_any_from here all ≡ true → ⊥
none_there here all none is = by (find (has_from here) all) refl
  where
    by : (o : Option Allocation) → find (has_from here) all ≡ o → ⊥
    by None at = any_found (has_from here) all is at
    by (Some a) at =
        let same : from here all ≡ from_in here a = ap (option_and_then (from_in here)) at in
        any_found (is_from here) a.connections (found_passes (has_from here) all a at) (sym same ∙ none)

pub none_from : (here : SocketAddr) (all : List Allocation) → from here all ≡ None → AreNoneAt here all
none_from here all none a listed c there at = none_there here all none (is_found here all a listed c there at)

-- The closed ones are gone.
pub none_closed : (here : SocketAddr) (all : List Allocation) → AreNoneAt here (map (closed here) all)
unfolding closed
none_closed here all a listed c there at =
    let image = in_map (closed here) a all listed in
    let kept = in_filter (λ (d : Connection). not (is_from here d)) c image.source.connections (subst (λ (b : Allocation). IsIn c b.connections) image.is there) in
    let passes : is_from here c ≡ true = subst (λ (h : SocketAddr). is_from here (record c { here = h }) ≡ true) (sym at) (same_itself here) in
    let never : ⊥ = Prim.cc (sym kept.1 ∙ ap not passes) in never

none_without : (here : SocketAddr) (p : Protocol) → AreNoneAt here (without here p).allocations
unfolding without
none_without here p = none_closed here p.allocations

-- After the close of the socket.
pub none_after : (here : SocketAddr) (p : Protocol) → p.agent.transport ≡ Tcp → AreNoneAt here (after_close here p.server p).allocations
none_after here p tcp = by (is_any_from here p.allocations) refl
  where
    by : (b : Bool) → is_any_from here p.allocations ≡ b → AreNoneAt here (after_close here p.server p).allocations
    by true any =
        let joined : is_joined here p.server p ≡ true = rw (tcp, same_itself p.server, any) refl in
        let is : after_close here p.server p ≡ without here p = rw joined refl in
        subst (λ (q : Protocol). AreNoneAt here q.allocations) (sym is) (none_without here p)
    by false none =
        let joined : is_joined here p.server p ≡ false = rw (tcp, same_itself p.server, none) refl in
        let is : after_close here p.server p ≡ p = rw joined refl in
        subst (λ (q : Protocol). AreNoneAt here q.allocations) (sym is) (none_found here p.allocations none)

-- If there was one, the caller is asked next to close its socket.
closes_next : (here : SocketAddr) (p : Protocol) → p.agent.transport ≡ Tcp → is_any_from here p.allocations ≡ true → (after_close here p.server p).closing ≡ here ∷ p.closing
unfolding without
closes_next here p tcp any =
    let joined : is_joined here p.server p ≡ true = rw (tcp, same_itself p.server, any) refl in
    let is : after_close here p.server p ≡ without here p = rw joined refl in
    ap (λ (q : Protocol). q.closing) is

-- ---- none is bound

-- A bound connection of an allocation is one of its connections.
abbrev IsNamed : Allocation → run.Held → Type 0
IsNamed a (run.Allocation transport address) = Unit {0}
IsNamed a (run.Permission transport ip) = Unit {0}
IsNamed a (run.Channel number peer) = Unit {0}
IsNamed a (run.Connection here peer number) = (c : Connection) × IsIn c a.connections × (c.here ≡ here)

named : (a : Allocation) (h : run.Held) → Has a h → IsNamed a h
named a _ HasItself = tt
named a _ (HasPermission p listed) = tt
named a _ (HasChannel c listed) = tt
named a _ (HasConnection c listed bound) = (c, listed, refl)

pub none_bound : (here : SocketAddr) (w : World) → HasNoneAt here w → HasNoneOver here w
none_bound here w none k is peer number stored =
    let c = named stored.allocation (run.Connection here peer number) stored.has in
    none k is stored.allocation stored.listed c.0 c.1 c.2

-- ---- no bytes come

abbrev pub contents : Bor (List ℕ) → List ℕ
contents b = b.now

-- Bytes came from the server to that address, which isn't the client's own.
module _ (here there : SocketAddr) (p : Protocol) (server : p.server ≡ there) (apart : p.agent.here ≢ here) (now : ℕ)
    (came : Transmit (Bor (List ℕ))) (transport_is : came.transport ≡ p.agent.transport) (from_is : came.from ≡ there) (to_is : came.to ≡ here) (took : TurnRecvRet (Bor (List ℕ))) where
  pub socket_is : socket_of p came ≡ from here p.allocations
  socket_is =
      one_socket p came there here transport_is from_is to_is
      ∙ ap (λ (s : SocketAddr). if is_same_address there s then from here p.allocations else None) server
      ∙ ap (λ (b : Bool). if b then from here p.allocations else None) (same_itself there)

  -- It is no chunk of the client's own connection.
  not_own : (own : came.to ≡ p.agent.here) → ⊥
  not_own own = apart (sym own ∙ to_is)

  over_stream : (stream : Stream) (q : ClientState) → IsStreamed contents now stream p came took q → IsReceivedAt contents now p came took q.core
  over_stream stream q (Chunk of some left opens is) = absurd (not_own of.of_server.to)
  over_stream stream q (End of none handled same closes) = absurd (not_own of.of_server.to)
  over_stream stream q (Strange other is opens) = is

  pub over_socket : (control : Control) (q : ClientState) → is_over_tcp control ≡ true → IsReceivedBy contents now control p came took q → IsReceivedAt contents now p came took q.core
  over_socket Datagrams q streams is = absurd (let never : ⊥ = Prim.cc streams in never)
  over_socket (Open stream) q streams is = over_stream stream q is
  over_socket Closed q streams is = is.0

-- The outcome of those bytes.
abbrev pub IsTakenFrom : (here : SocketAddr) → ℕ → Protocol → Transmit (Bor (List ℕ)) → TurnRecvRet (Bor (List ℕ)) → Protocol → Type 0
IsTakenFrom here now p came took new = MatchOption (from here p.allocations) (IsGivenBack p came took new) (λ c. IsTakenBy contents c now p came took new)

-- By the step of the simulation.
pub record IsComing (here : SocketAddr) (k : ClientState) (bytes : List ℕ) (now : ℕ) (ret : Answer) (new : Protocol) : Type 0 where
  pub came : Transmit (Bor (List ℕ))
  pub bytes_are : came.bytes.now ≡ bytes
  pub to_is : came.to ≡ here
  pub took : TurnRecvRet (Bor (List ℕ))
  pub reported : IsReported took ret
  pub taken : IsTakenFrom here now k.core came took new

module _ (here there : SocketAddr) (w v : World) (bytes : Vec ℕ Global) (now : ℕ) (ret : Answer) (early : is_in_range now ≡ true) (may : MayConnect here there w) where
  fed_coming : (q : ClientState) → IsFed ret may.client bytes.items there here now q → IsComing here may.client bytes.items now ret q.core
  fed_coming q fed = record {
    came = fed.came;
    bytes_are = fed.bytes_are;
    to_is = fed.to_is;
    took = fed.took;
    reported = fed.reported;
    taken = subst (λ (o : Option Connection). MatchOption o (IsGivenBack may.client.core fed.came fed.took q.core) (λ c. IsTakenBy contents c now may.client.core fed.came fed.took q.core))
        (socket_is here there may.client.core may.server may.apart now fed.came fed.transport_is fed.from_is fed.to_is fed.took)
        (over_socket here there may.client.core may.server may.apart now fed.came fed.transport_is fed.from_is fed.to_is fed.took may.client.control q may.streams fed.received);
  }

  at_client : (o : Option ClientState) → IsAtClient now (λ p q. IsFed ret p bytes.items there here now q) (Some may.client) ret o → (k : ClientState) → o ≡ Some k → IsComing here may.client bytes.items now ret k.core
  unfolding IsAtClient IsInRange
  at_client None is k at = absurd is
  at_client (Some q) is k at =
      subst (λ (x : ClientState). IsComing here may.client bytes.items now ret x.core) (inside at)
      (by_test (is_in_range now) (λ _ fed. fed_coming q fed) (λ out _. absurd (let never : ⊥ = Prim.cc (sym early ∙ out) in never)) is)

  pub coming : IsStep (event.ToClient bytes there here now) w ret v → (k : ClientState) → v.client ≡ Some k → IsComing here may.client bytes.items now ret k.core
  coming is k at = at_client v.client (subst (λ (o : Option ClientState). IsAtClient now (λ p q. IsFed ret p bytes.items there here now q) o ret v.client) may.client_is is.0) k at

-- No bytes.
module _ (here : SocketAddr) (k : ClientState) (tcp : k.core.agent.transport ≡ Tcp) (now : ℕ) (ret : Answer) (new : Protocol) (is : IsComing here k [] now ret new) where
  closed_there : IsEnded k.core is.came is.took new → AreNoneAt here new.allocations
  closed_there (Closes handled after) =
      subst (λ (q : Protocol). AreNoneAt here q.allocations) (sym (after ∙ ap (λ (h : SocketAddr). after_close h k.core.server k.core) is.to_is)) (none_after here k.core tcp)
  closed_there (LostEnd lost failed) = absurd (subst (λ (t : TurnRecvRet (Bor (List ℕ))). IsReported t ret) lost is.reported)

  empty_taken : (c : Connection) → IsTakenBy contents c now k.core is.came is.took new → AreNoneAt here new.allocations
  empty_taken c taken =
      by_test (length is.came.bytes.now == 0) (λ _ closed. closed_there closed)
      (λ some _. absurd (let never : ⊥ = Prim.cc (sym (ap (λ (l : List ℕ). length l == 0) is.bytes_are) ∙ some) in never)) taken

  pub empty_none : AreNoneAt here new.allocations
  empty_none = by (from here k.core.allocations) refl is.taken
    where
      by : (o : Option Connection) → from here k.core.allocations ≡ o → MatchOption o (IsGivenBack k.core is.came is.took new) (λ c. IsTakenBy contents c now k.core is.came is.took new) → AreNoneAt here new.allocations
      by None none back = subst (λ (q : Protocol). AreNoneAt here q.allocations) (sym back.1) (none_from here k.core.allocations none)
      by (Some c) at taken = empty_taken c taken

-- The socket of a connection that was there.
module _ (here : SocketAddr) (k : ClientState) (tcp : k.core.agent.transport ≡ Tcp) (now : ℕ) (ret : Answer) (new : Protocol) (is : IsComing here k [] now ret new) (any : is_any_from here k.core.allocations ≡ true) where
  abbrev Asks : Type 0
  Asks = new.closing ≡ here ∷ k.core.closing

  asks_there : IsEnded k.core is.came is.took new → Asks
  asks_there (Closes handled after) =
      ap (λ (q : Protocol). q.closing) (after ∙ ap (λ (h : SocketAddr). after_close h k.core.server k.core) is.to_is) ∙ closes_next here k.core tcp any
  asks_there (LostEnd lost failed) = absurd (subst (λ (t : TurnRecvRet (Bor (List ℕ))). IsReported t ret) lost is.reported)

  asks_taken : (c : Connection) → IsTakenBy contents c now k.core is.came is.took new → Asks
  asks_taken c taken =
      by_test (length is.came.bytes.now == 0) (λ _ closed. asks_there closed)
      (λ some _. absurd (let never : ⊥ = Prim.cc (sym (ap (λ (l : List ℕ). length l == 0) is.bytes_are) ∙ some) in never)) taken

  pub empty_asks : Asks
  empty_asks = by (from here k.core.allocations) refl is.taken
    where
      by : (o : Option Connection) → from here k.core.allocations ≡ o → MatchOption o (IsGivenBack k.core is.came is.took new) (λ c. IsTakenBy contents c now k.core is.came is.took new) → Asks
      by None none back = absurd (none_there here k.core.allocations none any)
      by (Some c) at taken = asks_taken c taken

pub streams_close : (here there : SocketAddr) (w v : World) (bytes : Vec ℕ Global) (now : ℕ) (ret : Answer) → bytes.items ≡ [] → is_in_range now ≡ true → (may : MayConnect here there w) → IsStep (event.ToClient bytes there here now) w ret v
    → (a : Allocation) → IsIn a may.client.core.allocations → (c : Connection) → IsIn c a.connections → c.here ≡ here → (k : ClientState) → v.client ≡ Some k → k.core.closing ≡ here ∷ may.client.core.closing
streams_close here there w v bytes now ret empty early may is a listed c has at k k_is =
    empty_asks here may.client may.transport now ret k.core (subst (λ (l : List ℕ). IsComing here may.client l now ret k.core) empty (coming here there w v bytes now ret early may is k k_is))
    (is_found here may.client.core.allocations a listed c has at)

pub streams_end : (here there : SocketAddr) (w v : World) (bytes : Vec ℕ Global) (now : ℕ) (ret : Answer) → bytes.items ≡ [] → is_in_range now ≡ true → MayConnect here there w → IsStep (event.ToClient bytes there here now) w ret v → HasNoneAt here v
streams_end here there w v bytes now ret empty early may is k at =
    empty_none here may.client may.transport now ret k.core (subst (λ (l : List ℕ). IsComing here may.client l now ret k.core) empty (coming here there w v bytes now ret early may is k at))
