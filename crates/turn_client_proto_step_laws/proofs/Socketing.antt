-- A socket that a caller provides is a step of a run, and so is its close (RFC 6062, sections 4.3 and 4.6).
use Rattle.std.proofs.Common.{◌≡◌, ℕ, Bool, true, false, eqb, if◌then◌else◌, List, [], ◌∷◌, ◌++◌, map, Option, Some, None, Result, Ok, Err, refl, sym, subst, inl}
use Rattle.std.proofs.lemmas.Bool.{eqb-true}
use Rattle.std.specs.List.{find}
use Rattle.std.specs.Prelude.{IfNone, IfSome, option_and_then, position, ◌&&◌}
use Rattle.std.specs.declared.net.socket_addr.SocketAddr.{SocketAddr}
use Rattle.turn_client_proto_timers.specs.StunTypesBase.declared.transport.TransportType.TheVariants.{Tcp}
use Rattle.turn_client_proto_timers.specs.TurnRuns.StunWire.{decoded_by}
use Rattle.turn_client_proto_timers.specs.Allocation.Changes.{change_first}
use Rattle.turn_client_proto_timers.specs.Api.declared.answer.Socket5Tuple.{Socket5Tuple}
use Rattle.turn_client_proto_timers.specs.Api.declared.error.TcpAllocateError.{TcpAllocateError}
use Rattle.turn_client_proto_timers.specs.Peers.Channel.Numbers.{AreDistinct}
use Rattle.turn_client_proto_recv.specs.Closing.{after_close, is_joined, without}
use Rattle.turn_client_proto_timers.specs.Connection.Attempts.{attempt_in, attempt_of}
use Rattle.turn_client_proto_timers.specs.Connection.Sockets.{awaits_socket, binding, closed, is_socket_for, release, to_bind}
use Rattle.turn_client_proto_timers.specs.Allocation.Same.{is_same_address, is_same_transport}
use Rattle.turn_client_proto_timers.specs.TurnRuns.Members.{IsIn}
use Rattle.turn_client_proto_timers.specs.Messages.Answers.{answer_text}
use Rattle.turn_client_proto_timers.specs.Messages.Requests.{request_text}
use Rattle.turn_client_proto_timers.specs.Messages.declared.answer.AttemptAnswer.{AttemptAnswer}
use Rattle.turn_client_proto_timers.specs.Messages.declared.answer.AttemptAnswer.TheVariants.{Accepted, Failed}
use Rattle.turn_client_proto_timers.specs.Messages.declared.request.TurnRequest.TheVariants.{ConnectionBind}
use Rattle.turn_client_proto_recv.specs.Sockets.{IsNumber, IsSocketAnswered, IsSocketTaken, after_socket, answering_if, attempt_at, binding_time, is_own, is_used, socket_refusal, socket_refusal_in, takes_sockets, unsocketed}
use Rattle.turn_client_proto_timers.specs.Core.Asking.{requested_from}
use Rattle.turn_client_proto_timers.specs.Core.Attempting.{answering, queued_answer}
use Rattle.turn_client_proto_timers.specs.Core.Deleting.{is_authenticated}
use Rattle.turn_client_proto_timers.specs.StunTypesBase.Times.{time_after}
use Rattle.turn_client_proto_timers.specs.Core.Numbering.{after_number, is_taken}
use Rattle.turn_client_proto_timers.specs.Messages.Waiting.{Queued}
use Rattle.turn_client_proto_timers.specs.Core.declared.protocol.Phase.{Phase}
use Rattle.turn_client_proto_timers.specs.Core.declared.protocol.Phase.TheVariants.{Authenticated}
use Rattle.turn_client_proto_timers.specs.Core.declared.protocol.Protocol.{Protocol}
use Rattle.turn_client_proto_step_laws.specs.ClientWords.{ByWaiting, IsAttempted, IsWaiting, Knows}
use Rattle.turn_client_proto_step_laws.specs.Held.{Allocation, Binding, Waiting}
use Rattle.turn_client_proto_step_laws.specs.RunClient.{Client, Parts, parts_of}
use Rattle.turn_client_proto_step_laws.specs.RunSteps.{IsRunStep}
use Rattle.turn_client_proto_step_laws.specs.Sound.{CanAsk, IsOrderly, IsSound, UntilEnded}
use Rattle.turn_client_proto_step_laws.proofs.Adding.{Adds, HasNumber, IsLess, adds_both, adds_none, allocations_less, queue_answers}
use Rattle.turn_client_proto_timers.proofs.Messages.Answering.{answer_number}
use Rattle.turn_client_proto_step_laws.proofs.Asking.{IsMade, IsUnderWay, requested_from_adds, requested_from_orderly, asks, at_first, made}
use Rattle.turn_client_proto_step_laws.proofs.Attempting.{answer_ready}
use Rattle.turn_client_proto_step_laws.proofs.Binds.{asks_bind}
use Rattle.turn_client_proto_step_laws.proofs.Ending.{still, still_can}
use Rattle.turn_client_proto_step_laws.proofs.Lessening.{IsAlike, each_less, same_distinct, same_first_distinct}
use Rattle.turn_client_proto_step_laws.proofs.Lists.{Passes, both_so, found_in, found_passes, passes_one}
use Rattle.turn_client_proto_step_laws.proofs.Orderly.{allocations_orderly, queue_orderly, until_map}
use Rattle.turn_client_proto_step_laws.proofs.Parting.{closed_alike, closed_less, release_alike, release_less}
use Rattle.turn_client_proto_step_laws.proofs.Plain.{counts_none, nothing_transmitted, quiet, run_step}
use Rattle.turn_client_proto_step_laws.proofs.Refreshing.{allocated, number_transmitted}
use Rattle.turn_client_proto_step_laws.proofs.Requesting.{authenticated}
use Rattle.turn_client_proto_step_laws.proofs.SameSockets.{same_address}
use Rattle.turn_client_proto_step_laws.proofs.Tying.{allocations_tying, tying_orderly}

-- ---- where something goes of each allocation, and all else stays

goes : (c : Client) (f : Allocation → Allocation) (queue : List Queued) (core : Protocol) → ((a : Allocation) → IsLess [] a (f a)) → ((a : Allocation) → IsAlike a (f a))
    → Adds [] (parts_of c.core) (record (parts_of c.core) { queue = queue }) → IsOrderly (record (parts_of c.core) { queue = queue })
    → core ≡ record c.core { allocations = map f c.core.allocations; queue = queue; closing = core.closing } → IsSound c → IsRunStep c [] None [] core
goes c f queue core less alike adds orderly is sound =
    let left : List Allocation = map f c.core.allocations in
    let between : Parts = record (parts_of c.core) { queue = queue } in
    let after : Protocol = record c.core { allocations = left; queue = queue; closing = core.closing } in
    let fewer = each_less [] f less c.core.allocations in
    subst (λ (p : Protocol). IsRunStep c [] None [] p) (sym is)
    (run_step [] [] None [] c c.transmitted after
    (quiet None [] c c.transmitted after (counts_none c after refl) (λ realm h. inl h)
    (adds_both [] (parts_of c.core) between (parts_of after) adds (allocations_less [] [] between left fewer (λ r h. absurd h))) (nothing_transmitted [] c) refl)
    (allocations_orderly [] between left fewer (λ r h. absurd h) (same_distinct f alike c.core.allocations sound.orderly.distinct) orderly)
    (until_map c.core.phase (still_can c after refl refl refl refl) sound.can_ask))

-- ---- a socket was closed

parts : (c : Client) (here : SocketAddr) → IsSound c → IsRunStep c [] None [] (without here c.core)
unfolding without
parts c here sound = goes c (closed here) c.core.queue (without here c.core) (closed_less here) (closed_alike here) (adds_none [] (parts_of c.core)) sound.orderly refl sound

pub close_step : (c : Client) (here server : SocketAddr) (new : Protocol) → IsSound c → new ≡ after_close here server c.core → IsRunStep c [] None [] new
close_step c here server new sound is =
    subst (λ (p : Protocol). IsRunStep c [] None [] p) (sym is)
    (elim (is_joined here server c.core) as (λ b. IsRunStep c [] None [] (if b then without here c.core else c.core)) [
      | true ↦ parts c here sound
      | false ↦ still c [] c.core sound refl
    ])

-- ---- a socket was opened, or was not

-- An allocation in which a connection waits for its socket knows it.
waits_known : (connection : ℕ) (peer : SocketAddr) (a : Allocation) → awaits_socket connection peer a ≡ true → Knows a connection peer
waits_known connection peer a waits =
    let one : Passes (is_socket_for connection peer) a.waiting = passes_one (is_socket_for connection peer) a.waiting waits in
    let both = both_so (eqb one.one.connection connection) (is_same_address one.one.peer peer) one.passes in
    subst (λ (n : ℕ). Knows a n peer) (eqb-true one.one.connection connection both.0)
    (subst (λ (x : SocketAddr). Knows a one.one.connection x) (same_address one.one.peer peer both.1) (ByWaiting one.one one.listed))

-- ---- the server's own request, of a connection that waits for its socket

-- The transaction ID of the server's request is that of a connection that waits.
attempt_waits : (connection : ℕ) (peer : SocketAddr) (number : ℕ) (p : Parts) → attempt_of connection peer p.allocations ≡ Some number → IsAttempted p.allocations p.queue number
attempt_waits connection peer number p is = by (find (awaits_socket connection peer) p.allocations) refl is
  where
    among : (a : Allocation) → IsIn a p.allocations → (found : Option Waiting) → find (is_socket_for connection peer) a.waiting ≡ found → option_and_then (λ (w : Waiting). w.attempt) found ≡ Some number
        → IsAttempted p.allocations p.queue number
    among a listed None at has = absurd (Prim.cc has)
    among a listed (Some w) at has = IsWaiting a listed w (found_in (is_socket_for connection peer) a.waiting w at) has

    by : (found : Option Allocation) → find (awaits_socket connection peer) p.allocations ≡ found → option_and_then (attempt_in connection peer) found ≡ Some number → IsAttempted p.allocations p.queue number
    by None at has = absurd (Prim.cc has)
    by (Some a) at has = among a (found_in (awaits_socket connection peer) p.allocations a at) (find (is_socket_for connection peer) a.waiting) refl has

-- The response to it is queued.
module _ (c : Client) (answer : AttemptAnswer) (number : ℕ) (is_number : IsNumber number) (waits : IsAttempted c.core.allocations c.core.queue number) where
  abbrev reply : Queued
  reply = queued_answer c.core.agent.here (answer_text c.core.auth answer number)

  answered_adds : Adds [] (parts_of c.core) (record (parts_of c.core) { queue = c.core.queue ++ reply ∷ [] })
  answered_adds =
      queue_answers (parts_of c.core) reply refl
      (subst (λ (n : ℕ). IsAttempted c.core.allocations c.core.queue n) (sym (answer_number c.core.auth answer number is_number)) waits)

  answered_orderly : IsOrderly (parts_of c.core) → IsOrderly (record (parts_of c.core) { queue = c.core.queue ++ reply ∷ [] })
  answered_orderly orderly = queue_orderly (parts_of c.core) reply (answer_ready c.core.auth answer number c.core.agent.here) orderly

  once_answered : IsUnderWay c [] c.core → IsUnderWay c [] (answering answer number c.core)
  unfolding answering
  once_answered is = record {
    adds = answered_adds;
    orderly = answered_orderly is.orderly;
    can_ask = record { account = is.can_ask.account; settled = is.can_ask.settled; texts = is.can_ask.texts; settings = is.can_ask.settings; words = is.can_ask.words };
    reported = is.reported;
    rng = is.rng;
    realms = is.realms;
  }

module _ (c : Client) (here peer : SocketAddr) (connection now : ℕ) where
  abbrev passes : Allocation → Bool
  passes = awaits_socket connection peer

  abbrev awaited : ℕ → Binding
  awaited number = record { number = number; expiry = time_after now binding_time }

  -- The allocations with the connection whose binding is requested.
  abbrev tied_with : ℕ → Protocol → List Allocation
  tied_with number mid = change_first passes (binding (to_bind here peer connection (awaited number))) mid.allocations

  abbrev bound_with : ℕ → Protocol → Protocol
  bound_with number mid = record (requested_from here (after_number mid) (ConnectionBind connection) number now) { allocations = map (release connection peer) (tied_with number mid) }

  asks_binding : (mid : Protocol) (number : ℕ) → mid.phase ≡ Authenticated → IsUnderWay c [] mid → IsMade mid (ConnectionBind connection) number → IsRunStep c [] None [] (bound_with number mid)
  asks_binding mid number occurs under_way is =
      let orderly : IsOrderly (parts_of mid) = under_way.orderly in
      let text = request_text mid.auth (ConnectionBind connection) number in
      let asking : Parts = parts_of (requested_from here (after_number mid) (ConnectionBind connection) number now) in
      let change = binding (to_bind here peer connection (awaited number)) in
      let tied : List Allocation = tied_with number mid in
      let between : Parts = record asking { allocations = tied } in
      let left : List Allocation = map (release connection peer) tied in
      let fewer = each_less [] (release connection peer) (release_less connection peer) tied in
      let knew = λ (a : Allocation) (found : find passes mid.allocations ≡ Some a). waits_known connection peer a (found_passes passes mid.allocations a found) in
      let number_made : HasNumber number (decoded_by text ∷ []) = record { one = decoded_by text; listed = inl refl; is = is.number_is } in
      let distinct : AreDistinct tied = same_first_distinct passes change (λ a. (refl, refl)) mid.allocations orderly.distinct in
      let adds = adds_both (decoded_by text ∷ []) (parts_of mid) asking (record between { allocations = left }) (requested_from_adds here mid (ConnectionBind connection) number now)
      (adds_both (decoded_by text ∷ []) asking between (record between { allocations = left }) (allocations_tying here peer connection (awaited number) passes asking knew (decoded_by text ∷ []) number_made)
      (allocations_less (decoded_by text ∷ []) [] between left fewer (λ r h. absurd h))) in
      let stored = allocations_orderly [] between left fewer (λ r h. absurd h) (same_distinct (release connection peer) (release_alike connection peer) tied distinct)
      (tying_orderly here peer connection (awaited number) passes asking knew (asks_bind mid here peer connection number now is) distinct
      (requested_from_orderly here mid (ConnectionBind connection) number now is (allocated _ mid.phase occurs) orderly)) in
      asks c mid (ConnectionBind connection) number under_way is None (bound_with number mid) adds stored refl (λ realm h. h) under_way.can_ask.settings refl refl (nothing_transmitted (decoded_by text ∷ []) c)

  -- If a peer opened the connection, the server is told first that there is a socket.
  opens : (number : ℕ) → c.core.phase ≡ Authenticated → IsUnderWay c [] c.core → IsMade c.core (ConnectionBind connection) number → IfSome (attempt_at connection peer c.core) IsNumber
      → IsRunStep c [] None [] (after_socket here peer connection number now c.core)
  unfolding after_socket answering is_taken
  opens number occurs under_way is reported = by (attempt_at connection peer c.core) refl reported
    where
      by : (attempt : Option ℕ) → attempt_at connection peer c.core ≡ attempt → IfSome attempt IsNumber
          → IsRunStep c [] None [] (record (requested_from here (answering_if Accepted attempt (after_number c.core)) (ConnectionBind connection) number now) {
            allocations = map (release connection peer) (tied_with number c.core);
          })
      by None at small = asks_binding c.core number occurs under_way is
      by (Some n) at small =
          asks_binding (answering Accepted n c.core) number occurs (once_answered c Accepted n small (attempt_waits connection peer n (parts_of c.core) at) under_way)
          (record { is_next = record { steps = is.is_next.steps; is = is.is_next.is; passed = is.is_next.passed; free = is.is_next.free }; message = is.message; number_is = is.number_is; reported = is.reported })

module _ (c : Client) (peer : SocketAddr) (connection now : ℕ) (sound : IsSound c) where
  none_opened : IfSome (attempt_at connection peer c.core) IsNumber → IsRunStep c [] None [] (unsocketed connection peer c.core)
  unfolding unsocketed answering
  none_opened reported = by (attempt_at connection peer c.core) refl reported
    where
      by : (attempt : Option ℕ) → attempt_at connection peer c.core ≡ attempt → IfSome attempt IsNumber
          → IsRunStep c [] None [] (record (answering_if Failed attempt c.core) { allocations = map (release connection peer) c.core.allocations })
      by None at small = goes c (release connection peer) c.core.queue _ (release_less connection peer) (release_alike connection peer) (adds_none [] (parts_of c.core)) sound.orderly refl sound
      by (Some n) at small =
          let waits = attempt_waits connection peer n (parts_of c.core) at in
          goes c (release connection peer) _ _ (release_less connection peer) (release_alike connection peer) (answered_adds c Failed n small waits) (answered_orderly c Failed n small waits sound.orderly) refl sound

  taken : (here : Option SocketAddr) (answer : Result (Unit {0}) TcpAllocateError) (new : Protocol) → c.core.phase ≡ Authenticated → CanAsk c
      → IsSocketTaken here c.core connection peer now answer new → IsRunStep c [] None [] new
  taken None (Ok x) new occurs can is = subst (λ (p : Protocol). IsRunStep c [] None [] p) (sym is.after) (none_opened is.attempt)
  taken None (Err e) new occurs can is = still c [] new sound is.1
  taken (Some here) (Ok x) new occurs can is =
      let under_way = at_first c [] sound.orderly can in
      subst (λ (p : Protocol). IsRunStep c [] None [] p) (sym is.after)
      (opens c here peer connection now is.number occurs under_way (made c c.core (ConnectionBind connection) is.number under_way is.lawful tt is.is_next) is.attempt)
  taken (Some here) (Err e) new occurs can is = subst (λ (p : Protocol). IsRunStep c [] None [] p) (sym is.1) (number_transmitted c sound)

  -- If the socket is taken, the server has allocated.
  is_active_by : (s : Socket5Tuple) (index : Option ℕ) (used : Bool) → socket_refusal_in index (takes_sockets c.core s) used ≡ None → is_authenticated c.core.phase ≡ true
  is_active_by s None used none = absurd (Prim.cc none)
  is_active_by s (Some index) used none =
      let takes : takes_sockets c.core s ≡ true = by (takes_sockets c.core s) none in
      let own = both_so (is_same_transport c.core.allocates Tcp) (is_own c.core s && is_authenticated c.core.phase) takes in
      (both_so (is_own c.core s) (is_authenticated c.core.phase) own.1).1
    where
      by : (b : Bool) → socket_refusal_in (Some index) b used ≡ None → b ≡ true
      by true h = refl
      by false h = absurd (Prim.cc h)

pub socket_step : (c : Client) (connection : ℕ) (s : Socket5Tuple) (peer : SocketAddr) (here : Option SocketAddr) (now : ℕ) (answer : Result (Unit {0}) TcpAllocateError) (new : Protocol) → IsSound c
    → IsSocketAnswered c.core connection s peer here now answer new → IsRunStep c [] None [] new
socket_step c connection s peer here now answer new sound is = by (socket_refusal c.core connection s peer here) refl is.refused is.taken
  where
    by : (o : Option TcpAllocateError) → socket_refusal c.core connection s peer here ≡ o → IfSome o (λ error. (answer ≡ Err error) × (new ≡ c.core))
        → IfNone o (IsSocketTaken here c.core connection peer now answer new) → IsRunStep c [] None [] new
    by (Some error) at rejected none = still c [] new sound rejected.1
    by None at none going =
        let occurs = authenticated c.core.phase (is_active_by c peer connection now sound s (position (awaits_socket connection peer) c.core.allocations) (is_used here c.core.allocations) at) in
        taken c peer connection now sound here answer new occurs (subst (λ (f : Phase). UntilEnded f (CanAsk c)) occurs sound.can_ask) going
