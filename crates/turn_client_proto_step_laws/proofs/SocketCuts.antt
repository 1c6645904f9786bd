-- It does not matter where the bytes are cut that come over the socket of a connection to a peer.
use Rattle.std.proofs.Common.{◌≡◌, ◌≢◌, ℕ, Bool, true, false, List, [], ◌∷◌, ◌++◌, Option, Some, None, option_map, length, refl, sym, ap, ◌∙◌, subst, inl, inr, arith}
use Rattle.std.proofs.lemmas.Bool.{cases_Bool, eqb-true}
use Rattle.std.proofs.lemmas.List.{append-nil, append_assoc}
use Rattle.std.specs.Bool.{MatchBool}
use Rattle.std.specs.List.{concat}
use Rattle.std.specs.Option.{option_and_then}
use Rattle.std.specs.Prelude.{MatchOption, is_some, ◌==◌, if◌then◌else◌}
use Rattle.std.specs.declared.net.socket_addr.SocketAddr.{SocketAddr}
use Rattle.turn_client_proto_timers.specs.StunTypesBase.declared.transmit.Transmit.{Transmit}
use Rattle.turn_client_proto_recv.specs.TurnTypesFrame.StreamAnswers.{IsNone, looked, after_look, joined}
use Rattle.turn_client_proto_recv.specs.TurnTypesFrame.Streams.{Stream, alive}
use Rattle.turn_client_proto_timers.specs.Allocation.declared.allocation.Allocation.{Allocation}
use Rattle.turn_client_proto_timers.specs.Allocation.declared.connection.Binding.{Binding}
use Rattle.turn_client_proto_timers.specs.Allocation.declared.connection.Connection.{Connection}
use Rattle.turn_client_proto_timers.specs.Api.Payloads.{PeerPayload}
use Rattle.turn_client_proto_timers.specs.Api.declared.answer.TurnRecvRet.{TurnRecvRet}
use Rattle.turn_client_proto_timers.specs.Api.declared.answer.TurnRecvRet.TheVariants as recv
use Rattle.turn_client_proto_timers.specs.Connection.Streams.{emptied, from, has_raw, with_stream}
use Rattle.turn_client_proto_timers.specs.Core.declared.protocol.Protocol.{Protocol}
use Rattle.turn_client_proto_recv.specs.Processing.{joining_of}
use Rattle.turn_client_proto_timers.specs.Allocation.Same.{is_same_address, is_same_transport}
use Rattle.turn_client_proto_recv.specs.Control.{Control, Datagrams, Open, Closed}
use Rattle.turn_client_proto_step_laws.specs.Cuts.{IsRequestedOut, NoMore, OneMore, data_answered, chunks_of}
use Rattle.turn_client_proto_recv.specs.Datagrams.{IsGivenBack, IsHandledAs}
use Rattle.turn_client_proto_recv.specs.ClientState.{ClientState}
use Rattle.turn_client_proto_recv.specs.Chunks.{IsFrameHandled}
use Rattle.turn_client_proto_recv.specs.Pulls.{Ends, Gives, Goes, IsPulled}
use Rattle.turn_client_proto_recv.specs.Receipts.{End, IsGivenBy, IsReceivedBy, IsStreamRequested, IsStreamed, Chunk, Strange}
use Rattle.turn_client_proto_step_laws.specs.SocketCuts.{AreDrainedOver, HasNoFrame, IsConnectionDrained, IsControlDrained, IsDrainedOver, IsOverSocket, IsSocketDrained, bytes_given}
use Rattle.turn_client_proto_recv.specs.SocketChunks.{Fed, GivesRaw, IsBytesTaken, IsEnded, IsFed, IsChunkFed, IsRawTaken, IsReceivedAt, IsTakenBy, IsTakenFor, LostFrames, LostRaw, Stops, Waits, is_joining, raw_given, raw_stored, raw_waiting, socket_of, with_stored}
use Rattle.turn_client_proto_recv.proofs.Exchanging.{from_exchanged}
use Rattle.turn_client_proto_step_laws.proofs.Order.{none_first, raw_first}
use Rattle.turn_client_proto_step_laws.proofs.SameHere.{same_way}
use Rattle.turn_client_proto_step_laws.proofs.SocketFed.{IsCalm, bound_alive, fed_calm, fed_more, fed_same}
use Rattle.turn_client_proto_step_laws.proofs.WithStored.{stored_none, stored_same, stored_twice, only_raw}
use Rattle.turn_client_proto_step_laws.proofs.SameSockets.{same_itself}

-- ---- what waits

nothing_pulled : (now : ℕ) (stream : Stream) (old : Protocol) (given : Option PeerPayload) (left : Stream) (new : Protocol) → IsPulled (IsFrameHandled now) stream old given left new → IsNone (looked stream)
    → (given ≡ None) × (left ≡ after_look stream) × (new ≡ old)
nothing_pulled now _ _ _ _ _ (Ends stream old none) is = (refl, refl, refl)
nothing_pulled now _ _ _ _ _ (Gives stream old payload new some holds) is = absurd (some is)
nothing_pulled now _ _ _ _ _ (Goes stream old middle given left new some holds more) is = absurd (some is)

tcp_drained : (control : Control) → IsControlDrained control → control ≢ Datagrams
tcp_drained Datagrams drained is = drained
tcp_drained (Open stream) drained is = Prim.cc is
tcp_drained Closed drained is = Prim.cc is

-- Two clients with equal core and control are equal.
alike : (one other : ClientState) → one.core ≡ other.core → one.control ≡ other.control → one ≡ other
alike one other cores controls = ap (λ (p : Protocol). record one { core = p }) cores ∙ ap (λ (c : Control). record other { control = c }) controls

module _ (now : ℕ) where
  nothing_requested : (control : Control) (old : Protocol) (given : Option PeerPayload) (new : ClientState) → IsControlDrained control → IsStreamRequested now control old given new → (given ≡ None) × (new.core ≡ old) × (new.control ≡ control)
  nothing_requested Datagrams old given new drained is = absurd drained
  nothing_requested Closed old given new drained is = is
  nothing_requested (Open stream) old given new drained is =
      let none = nothing_pulled now stream old given is.left new.core is.pulled drained.none in
      (none.0, none.2, is.occurs ∙ ap Open (none.1 ∙ drained.left))

  nothing_given : (control : Control) (old : Protocol) (given : Option PeerPayload) (new : ClientState) → IsControlDrained control → raw_waiting old ≡ None → IsGivenBy now control old given new → (given ≡ None) × (new.core ≡ old) × (new.control ≡ control)
  nothing_given Datagrams old given new drained none is = absurd drained
  nothing_given Closed old given new drained none is = nothing_requested Closed old given new drained (none_first now (raw_waiting old) Closed old given new none is)
  nothing_given (Open stream) old given new drained none is = nothing_requested (Open stream) old given new drained (none_first now (raw_waiting old) (Open stream) old given new none is)

  requested_none : (old : ClientState) (given : List PeerPayload) (new : ClientState) → IsRequestedOut now old given new → IsControlDrained old.control → raw_waiting old.core ≡ None → (given ≡ []) × (new ≡ old)
  requested_none _ _ _ (NoMore old new is) drained none =
      let all = nothing_given old.control old.core None new drained none is in
      (refl, alike new old all.1 all.2)
  requested_none _ _ _ (OneMore old between new payload others is rest) drained none =
      absurd (Prim.cc (nothing_given old.control old.core (Some payload) between drained none is).0)

  -- The bytes of one connection are returned.
  requested_raw : (old : ClientState) (given : List PeerPayload) (new : ClientState) → IsRequestedOut now old given new → IsControlDrained old.control → (c : Connection) → raw_waiting old.core ≡ Some c → (p : Protocol) → record old.core { allocations = emptied old.core.allocations } ≡ p
      → raw_waiting p ≡ None → (given ≡ raw_stored c ∷ []) × (new.core ≡ p) × (new.control ≡ old.control)
  requested_raw _ _ _ (NoMore old new is) drained c some p after none =
      let raw = raw_first now old.control old.core None new c (tcp_drained old.control drained) some is in
      absurd (Prim.cc raw.0.gives)
  requested_raw _ _ _ (OneMore old between new payload others is rest) drained c some p after none =
      let raw = raw_first now old.control old.core (Some payload) between c (tcp_drained old.control drained) some is in
      let core : between.core ≡ p = raw.0.after ∙ after in
      let all = requested_none between others new rest (subst IsControlDrained (sym raw.1) drained) (ap raw_waiting core ∙ none) in
      let same : payload ≡ raw_stored c = Prim.cc raw.0.gives in (
        ap (λ (x : PeerPayload). x ∷ others) same ∙ ap (λ (l : List PeerPayload). raw_stored c ∷ l) all.0,
        ap (λ (k : ClientState). k.core) all.1 ∙ core,
        ap (λ (k : ClientState). k.control) all.1 ∙ raw.1,
      )

-- ---- what comes

some_there : (b : List ℕ) → b ≢ [] → (length b == 0) ≡ false
some_there [] some = absurd (some refl)
some_there (x ∷ xs) some = elim (cases_Bool (length (x ∷ xs) == 0)) [
  | inl is ↦ absurd (let none = eqb-true (length (x ∷ xs)) 0 is in omega arith)
  | inr other ↦ other
]

module _ {T : Type 0} (items : T → List ℕ) (here : SocketAddr) (now : ℕ) where
  -- The connection is that with the own address.
  socket_is : (p : Protocol) (came : Transmit T) → IsOverSocket here p came → socket_of p came ≡ from here p.allocations
  socket_is p came over =
      let way : is_same_transport came.transport p.agent.transport ≡ true = ap (λ t. is_same_transport t p.agent.transport) over.transport ∙ same_way p.agent.transport in
      let source : is_same_address came.from p.server ≡ true = ap (λ (a : SocketAddr). is_same_address a p.server) over.source ∙ same_itself p.server in
      let is : socket_of p came ≡ from came.to p.allocations = rw (way, source) refl in
      is ∙ ap (λ (a : SocketAddr). from a p.allocations) over.to

  module _ (came : Transmit T) (answer : TurnRecvRet T) where
    at_socket : (control : Control) (old : Protocol) (new : ClientState) → IsControlDrained control → here ≢ old.agent.here → IsOverSocket here old came → IsReceivedBy items now control old came answer new
        → IsReceivedAt items now old came answer new.core × (new.control ≡ control)
    at_socket Datagrams old new drained apart over is = absurd drained
    at_socket Closed old new drained apart over is = is
    at_socket (Open stream) old new drained apart over is = by is
      where
        by : IsStreamed items now stream old came answer new → IsReceivedAt items now old came answer new.core × (new.control ≡ Open stream)
        by (Chunk own some left occurs takes) = absurd (apart (sym over.to ∙ own.of_server.to))
        by (End own none reported same closed) = absurd (apart (sym over.to ∙ own.of_server.to))
        by (Strange other takes occurs) = (takes, occurs)

    -- What becomes of the bytes, by the connection.
    by_connection : (old : Protocol) (new : Protocol) → IsOverSocket here old came → IsReceivedAt items now old came answer new → (o : Option Connection) → from here old.allocations ≡ o
        → MatchOption o (IsGivenBack old came answer new) (λ c. IsTakenBy items c now old came answer new)
    by_connection old new over is o found =
        subst (λ (x : Option Connection). MatchOption x (IsGivenBack old came answer new) (λ c. IsTakenBy items c now old came answer new)) (socket_is old came over ∙ found) is

    taken_by : (c : Connection) (old new : Protocol) → items came.bytes ≢ [] → IsTakenBy items c now old came answer new → IsBytesTaken items c.awaited c now old came answer new
    taken_by c old new some is =
        subst (λ (b : Bool). MatchBool b (IsEnded old came answer new) (IsBytesTaken items c.awaited c now old came answer new)) (some_there (items came.bytes) some) is

    raw_taken : (c : Connection) (old new : Protocol) → c.stream ≡ alive [] → answer ≢ recv.NoMemory came → IsRawTaken items c old came answer new
        → (answer ≡ recv.PeerData (raw_given c (items came.bytes))) × (new ≡ old)
    raw_taken c old new empty ample (GivesRaw is after) =
        let none : (length c.stream.stored == 0) ≡ true = ap (λ (s : Stream). length s.stored == 0) empty in
        (is, after ∙ ap (λ (b : Bool). if b then old else with_stored came.to (alive []) old) none)
    raw_taken c old new empty ample (LostRaw some is failed) = absurd (ample is)

    -- The result for frames contains no data.
    no_data : (handled : Bool) → IsHandledAs came handled answer → data_answered answer ≡ []
    no_data true is = ap data_answered is
    no_data false is = ap data_answered is

    record IsFedSo (c : Connection) (old new : Protocol) : Type 0 where
      left : Stream
      middle : Protocol
      fed : IsFed here now (joined c.stream (items came.bytes)) (with_stored here (alive []) old) left middle
      after : new ≡ with_stored here left middle
      silent : data_answered answer ≡ []

    fed_taken : (c : Connection) (old new : Protocol) → came.to ≡ here → answer ≢ recv.NoMemory came → IsTakenFor items c now old came answer new → IsFedSo c old new
    fed_taken c old new to ample is = by is.fed
      where
        by : IsChunkFed items came.to now c.stream (with_stored came.to (alive []) old) came answer is.left is.middle → IsFedSo c old new
        by (Fed fed reported) = record {
          left = is.left;
          middle = is.middle;
          fed = subst (λ (a : SocketAddr). IsFed a now (joined c.stream (items came.bytes)) (with_stored a (alive []) old) is.left is.middle) to fed;
          after = is.after ∙ ap (λ (a : SocketAddr). with_stored a is.left is.middle) to;
          silent = no_data _ reported;
        }
        by (LostFrames reported lost) = absurd (ample reported)

  -- ---- what came so far

  -- By the connection: it was removed; or it is bound, and what followed its frames was delivered; or it is
  -- to be bound, and that is buffered.
  abbrev IsOutOf : Option Binding → Stream → Protocol → List ℕ → Protocol → Type 0
  IsOutOf None left middle given p = (given ≡ left.stored) × (p ≡ middle)
  IsOutOf (Some awaited) left middle given p = (given ≡ []) × (p ≡ with_stored here left middle)

  abbrev IsOutBy : Option Connection → Stream → Protocol → List ℕ → Protocol → Type 0
  IsOutBy None left middle given p = (given ≡ []) × (p ≡ middle)
  IsOutBy (Some c) left middle given p = IsOutOf c.awaited left middle given p

  out_of_same : (o : Option Binding) (left : Stream) (middle : Protocol) (given again : List ℕ) (p q : Protocol) → IsOutOf o left middle given p → IsOutOf o left middle again q → (given ≡ again) × (p ≡ q)
  out_of_same None left middle given again p q a b = (a.0 ∙ sym b.0, a.1 ∙ sym b.1)
  out_of_same (Some awaited) left middle given again p q a b = (a.0 ∙ sym b.0, a.1 ∙ sym b.1)

  out_same : (o : Option Connection) (left : Stream) (middle : Protocol) (given again : List ℕ) (p q : Protocol) → IsOutBy o left middle given p → IsOutBy o left middle again q → (given ≡ again) × (p ≡ q)
  out_same None left middle given again p q a b = (a.0 ∙ sym b.0, a.1 ∙ sym b.1)
  out_same (Some c) left middle given again p q a b = out_of_same c.awaited left middle given again p q a b

  -- From a stream and a client on: all that came was handled as one chunk, and these bytes of the peer were
  -- delivered.
  record IsReached (start : Stream) (first : Protocol) (came given : List ℕ) (p : Protocol) : Type 0 where
    left : Stream
    middle : Protocol
    fed : IsFed here now (joined start came) first left middle
    out : IsOutBy (from here middle.allocations) left middle given p

  reached_same : (start : Stream) (first : Protocol) (came given again : List ℕ) (p q : Protocol) → IsReached start first came given p → IsReached start first came again q → (given ≡ again) × (p ≡ q)
  reached_same start first came given again p q a b =
      let same = fed_same here now (joined start came) first a.left a.middle a.fed b.left b.middle b.fed in
      let moved : IsOutBy (from here a.middle.allocations) a.left a.middle again q =
      subst (λ (s : Stream). IsOutBy (from here a.middle.allocations) s a.middle again q) (sym same.0)
      (subst (λ (m : Protocol). IsOutBy (from here m.allocations) b.left m again q) (sym same.1) b.out) in
      out_same (from here a.middle.allocations) a.left a.middle given again p q a.out moved

  -- ---- whether the connection is to be bound

  joins_by : (p : Protocol) (o : Option Connection) → from here p.allocations ≡ o → is_joining here p ≡ is_some (option_and_then joining_of o)
  joins_by p o found = ap (λ (x : Option Connection). is_some (option_and_then joining_of x)) found

  joins_of : (c : Connection) (o : Option Binding) → c.awaited ≡ o → is_some (joining_of c) ≡ is_some o
  joins_of c None is = rw is refl
  joins_of c (Some b) is = rw is refl

  gone_not : (p : Protocol) → from here p.allocations ≡ None → is_joining here p ≡ false
  gone_not p gone = joins_by p None gone

  bound_not : (p : Protocol) (c : Connection) → from here p.allocations ≡ Some c → c.awaited ≡ None → is_joining here p ≡ false
  bound_not p c found bound = joins_by p (Some c) found ∙ joins_of c None bound

  awaits_so : (p : Protocol) (c : Connection) (b : Binding) → from here p.allocations ≡ Some c → c.awaited ≡ Some b → is_joining here p ≡ true
  awaits_so p c b found awaited = joins_by p (Some c) found ∙ joins_of c (Some b) awaited

  -- ---- what waits then

  raw_so : (s : Stream) (c : Connection) → c.awaited ≡ None → s.stored ≢ [] → has_raw (with_stream s c) ≡ true
  raw_so s c bound some = let full = some_there s.stored some in rw (bound, full) refl

  not_raw : (s : Stream) (c : Connection) (b : Binding) → c.awaited ≡ Some b → has_raw (with_stream s c) ≡ false
  not_raw s c b awaited = rw awaited refl

  module _ (left : Stream) (middle : Protocol) (calm : IsCalm here middle) (between : ClientState) (at : between.core ≡ with_stored here left middle) (drained : IsControlDrained between.control) (given : List PeerPayload) (new : ClientState) (asks : IsRequestedOut now between given new) where
    abbrev Out : Option Connection → Type 0
    Out o = IsOutBy o left middle (bytes_given given) new.core × (new.control ≡ between.control)

    -- Nothing is buffered.
    quiet : raw_waiting (with_stored here left middle) ≡ None → (bytes_given given ≡ []) × (new.core ≡ with_stored here left middle) × (new.control ≡ between.control)
    quiet none =
        let all = requested_none now between given new asks drained (ap raw_waiting at ∙ none) in
        (ap bytes_given all.0, ap (λ (k : ClientState). k.core) all.1 ∙ at, ap (λ (k : ClientState). k.control) all.1)

    out_gone : from here middle.allocations ≡ None → Out None
    out_gone gone =
        let same = stored_same here left middle (λ k found. absurd (Prim.cc (sym gone ∙ found))) in
        let all = quiet (ap raw_waiting same ∙ calm.none_raw) in
        ((all.0, all.1 ∙ same), all.2)

    out_awaits : (c : Connection) (b : Binding) → from here middle.allocations ≡ Some c → c.awaited ≡ Some b → (bytes_given given ≡ []) × (new.core ≡ with_stored here left middle) × (new.control ≡ between.control)
    out_awaits c b found awaited =
        quiet (stored_none here left middle calm.none_raw (λ k is. not_raw left k b (ap (λ (x : Connection). x.awaited) (same_found k is) ∙ awaited)))
      where
        same_found : (k : Connection) → from here middle.allocations ≡ Some k → k ≡ c
        same_found k is = Prim.cc (sym is ∙ found)

    out_bound : (c : Connection) → from here middle.allocations ≡ Some c → c.awaited ≡ None → left ≡ alive left.stored → (bytes_given given ≡ left.stored) × (new.core ≡ middle) × (new.control ≡ between.control)
    out_bound c found bound lives = by left.stored refl
      where
        forgets : with_stored here (alive []) middle ≡ middle
        forgets = stored_same here (alive []) middle calm.nothing

        by : (stored : List ℕ) → left.stored ≡ stored → (bytes_given given ≡ left.stored) × (new.core ≡ middle) × (new.control ≡ between.control)
        by [] is =
            let none : with_stored here left middle ≡ middle = ap (λ (s : Stream). with_stored here s middle) (lives ∙ ap (λ (l : List ℕ). alive l) is) ∙ forgets in
            let all = quiet (ap raw_waiting none ∙ calm.none_raw) in
            (all.0 ∙ sym is, all.1 ∙ none, all.2)
        by (x ∷ xs) is =
            let some : left.stored ≢ [] = λ none. Prim.cc (sym none ∙ is) in
            let raw = only_raw here left middle c calm.none_raw found (raw_so left c bound some) in
            let empties : record between.core { allocations = emptied between.core.allocations } ≡ middle =
            ap (λ (p : Protocol). record p { allocations = emptied p.allocations }) at ∙ ap (λ (l : List Allocation). record middle { allocations = l }) raw.empties ∙ forgets in
            let all = requested_raw now between given new asks drained (with_stream left c) (ap raw_waiting at ∙ raw.found) middle empties calm.none_raw in
            (ap bytes_given all.0 ∙ append-nil left.stored, all.1, all.2)

    -- The outcome, by the connection.
    out_all : (o : Option Connection) → from here middle.allocations ≡ o → (is_joining here middle ≡ false → left ≡ alive left.stored) → Out o
    out_all None found lives = out_gone found
    out_all (Some c) found lives = by c.awaited refl
      where
        by : (o : Option Binding) → c.awaited ≡ o → IsOutOf c.awaited left middle (bytes_given given) new.core × (new.control ≡ between.control)
        by None is =
            let all = out_bound c found is (lives (bound_not middle c found is)) in
            (subst (λ (o : Option Binding). IsOutOf o left middle (bytes_given given) new.core) (sym is) (all.0, all.1), all.2)
        by (Some b) is =
            let all = out_awaits c b found is in
            (subst (λ (o : Option Binding). IsOutOf o left middle (bytes_given given) new.core) (sym is) (all.0, all.1), all.2)

  -- ---- one more chunk

  module _ (start : Stream) (first : Protocol) (calm : IsCalm here first) (before given : List ℕ) (old : ClientState) (reached : IsReached start first before given old.core) (drained : IsControlDrained old.control)
      (came : Transmit T) (gives : List PeerPayload) (new : ClientState) (is : IsDrainedOver items here now old came gives new) where
    abbrev More : Type 0
    More = IsReached start first (before ++ items came.bytes) (given ++ bytes_given gives) new.core × (new.control ≡ old.control)

    middle_calm : IsCalm here reached.middle
    middle_calm = fed_calm here now (joined start before) first reached.left reached.middle reached.fed calm

    -- What comes is handled after what came before.
    following : (last : Stream) (end : Protocol) → IsFed here now (joined reached.left (items came.bytes)) reached.middle last end → IsFed here now (joined start (before ++ items came.bytes)) first last end
    following last end fed =
        subst (λ (l : List ℕ). IsFed here now (record { stored = l; dead = start.dead }) first last end) (append_assoc start.stored before (items came.bytes))
        (fed_more here now (joined start before) first reached.left reached.middle reached.fed (items came.bytes) last end fed)

    module _ (p : Protocol) (core : old.core ≡ p) (apart : here ≢ p.agent.here) (o : Option Connection) (found : from here p.allocations ≡ o) where
      at : IsReceivedAt items now old.core came is.answer is.between.core × (is.between.control ≡ old.control)
      at = at_socket came is.answer old.control old.core is.between drained (λ e. apart (e ∙ ap (λ (x : Protocol). x.agent.here) core)) is.over is.received

      same_control : is.between.control ≡ old.control
      same_control = at.1

      received : MatchOption o (IsGivenBack old.core came is.answer is.between.core) (λ c. IsTakenBy items c now old.core came is.answer is.between.core)
      received = by_connection came is.answer old.core is.between.core is.over at.0 o (ap (λ (x : Protocol). from here x.allocations) core ∙ found)

    -- Nothing is buffered if the client is as it was.
    unasked : old.core ≡ reached.middle → is.between.core ≡ old.core → is.between.control ≡ old.control → (is.waiting ≡ []) × (new.core ≡ reached.middle) × (new.control ≡ old.control)
    unasked core same control =
        let all = requested_none now is.between is.waiting new is.requested (subst IsControlDrained (sym control) drained) (ap raw_waiting (same ∙ core) ∙ middle_calm.none_raw) in
        (all.0, ap (λ (k : ClientState). k.core) all.1 ∙ same ∙ core, ap (λ (k : ClientState). k.control) all.1 ∙ control)

    more_gone : from here reached.middle.allocations ≡ None → IsOutBy None reached.left reached.middle given old.core → More
    more_gone gone out =
        let back = received reached.middle out.1 middle_calm.apart None gone in
        let rest = unasked out.1 back.1 (same_control reached.middle out.1 middle_calm.apart None gone) in
        let none : gives ≡ [] = is.gives ∙ ap (λ (a : TurnRecvRet T). data_answered a ++ is.waiting) back.0 ∙ rest.0 in
        let reported : given ++ bytes_given gives ≡ [] = ap (λ (l : List ℕ). l ++ bytes_given gives) out.0 ∙ ap bytes_given none in (
          record {
            left = joined reached.left (items came.bytes);
            middle = reached.middle;
            fed = following (joined reached.left (items came.bytes)) reached.middle (Stops (joined reached.left (items came.bytes)) reached.middle (gone_not reached.middle gone));
            out = subst (λ (o : Option Connection). IsOutBy o (joined reached.left (items came.bytes)) reached.middle (given ++ bytes_given gives) new.core) (sym gone) (reported, rest.1);
          },
          rest.2,
        )

    more_bound : (c : Connection) → from here reached.middle.allocations ≡ Some c → c.awaited ≡ None → IsOutOf None reached.left reached.middle given old.core → More
    more_bound c found bound out =
        let taken = taken_by came is.answer c old.core is.between.core is.has_bytes (received reached.middle out.1 middle_calm.apart (Some c) found) in
        let empty : c.stream ≡ alive [] = middle_calm.nothing c found in
        let raw = raw_taken came is.answer c old.core is.between.core empty is.ample
        (subst (λ (o : Option Binding). IsBytesTaken items o c now old.core came is.answer is.between.core) bound taken) in
        let rest = unasked out.1 raw.1 (same_control reached.middle out.1 middle_calm.apart (Some c) found) in
        let all : bytes_given gives ≡ items came.bytes =
        ap bytes_given (is.gives ∙ ap (λ (a : TurnRecvRet T). data_answered a ++ is.waiting) raw.0 ∙ ap (λ (l : List PeerPayload). data_answered {T = T} (recv.PeerData (raw_given c (items came.bytes))) ++ l) rest.0)
        ∙ append-nil (c.stream.stored ++ items came.bytes) ∙ ap (λ (s : Stream). s.stored ++ items came.bytes) empty in
        let reported : given ++ bytes_given gives ≡ reached.left.stored ++ items came.bytes = ap (λ (l : List ℕ). l ++ bytes_given gives) out.0 ∙ ap (λ (l : List ℕ). reached.left.stored ++ l) all in (
          record {
            left = joined reached.left (items came.bytes);
            middle = reached.middle;
            fed = following (joined reached.left (items came.bytes)) reached.middle (Stops (joined reached.left (items came.bytes)) reached.middle (bound_not reached.middle c found bound));
            out = subst (λ (o : Option Connection). IsOutBy o (joined reached.left (items came.bytes)) reached.middle (given ++ bytes_given gives) new.core) (sym found)
                (subst (λ (o : Option Binding). IsOutOf o (joined reached.left (items came.bytes)) reached.middle (given ++ bytes_given gives) new.core) (sym bound) (reported, rest.1));
          },
          rest.2,
        )

    more_awaits : (c : Connection) (b : Binding) → from here reached.middle.allocations ≡ Some c → c.awaited ≡ Some b → IsOutOf (Some b) reached.left reached.middle given old.core → More
    more_awaits c b found awaited out =
        let there : from here (with_stored here reached.left reached.middle).allocations ≡ Some (with_stream reached.left c) =
        from_exchanged here reached.left reached.middle.allocations ∙ ap (option_map (with_stream reached.left)) found in
        let taken = taken_by came is.answer (with_stream reached.left c) old.core is.between.core is.has_bytes
        (received (with_stored here reached.left reached.middle) out.1 middle_calm.apart (Some (with_stream reached.left c)) there) in
        let so = fed_taken came is.answer (with_stream reached.left c) old.core is.between.core is.over.to is.ample
        (subst (λ (o : Option Binding). IsBytesTaken items o (with_stream reached.left c) now old.core came is.answer is.between.core) awaited taken) in
        let forgets : with_stored here (alive []) old.core ≡ reached.middle =
        ap (with_stored here (alive [])) out.1 ∙ stored_twice here (alive []) reached.left reached.middle ∙ stored_same here (alive []) reached.middle middle_calm.nothing in
        let fed : IsFed here now (joined reached.left (items came.bytes)) reached.middle so.left so.middle =
        subst (λ (p : Protocol). IsFed here now (joined reached.left (items came.bytes)) p so.left so.middle) forgets so.fed in
        let after = fed_calm here now (joined reached.left (items came.bytes)) reached.middle so.left so.middle fed middle_calm in
        let control = same_control (with_stored here reached.left reached.middle) out.1 middle_calm.apart (Some (with_stream reached.left c)) there in
        let all = out_all so.left so.middle after is.between so.after (subst IsControlDrained (sym control) drained) is.waiting new is.requested (from here so.middle.allocations) refl
        (λ bound. bound_alive here now (joined reached.left (items came.bytes)) reached.middle so.left so.middle fed (awaits_so reached.middle c b found awaited) bound) in
        let reported : bytes_given is.waiting ≡ given ++ bytes_given gives =
        sym (ap (λ (l : List ℕ). l ++ bytes_given gives) out.0 ∙ ap bytes_given (is.gives ∙ ap (λ (l : List PeerPayload). l ++ is.waiting) so.silent)) in (
          record {
            left = so.left;
            middle = so.middle;
            fed = following so.left so.middle fed;
            out = subst (λ (l : List ℕ). IsOutBy (from here so.middle.allocations) so.left so.middle l new.core) reported all.0;
          },
          all.1 ∙ control,
        )

    more_by : (o : Option Connection) → from here reached.middle.allocations ≡ o → IsOutBy o reached.left reached.middle given old.core → More
    more_by None gone out = more_gone gone out
    more_by (Some c) found out = by c.awaited refl out
      where
        by : (o : Option Binding) → c.awaited ≡ o → IsOutOf o reached.left reached.middle given old.core → More
        by None is out = more_bound c found is out
        by (Some b) is out = more_awaits c b found is out

    more : More
    more = more_by (from here reached.middle.allocations) refl reached.out

  -- ---- chunks

  both_given : (one other : List PeerPayload) → bytes_given one ++ bytes_given other ≡ bytes_given (one ++ other)
  both_given [] other = refl
  both_given (x ∷ one) other = append_assoc x.payload (bytes_given one) (bytes_given other) ∙ ap (λ (l : List ℕ). x.payload ++ l) (both_given one other)

  chunks : (start : Stream) (first : Protocol) → IsCalm here first → (all : List (Transmit T)) (before given : List ℕ) (old : ClientState) → IsReached start first before given old.core → IsControlDrained old.control
      → (gives : List PeerPayload) (new : ClientState) → AreDrainedOver items here now old all gives new → IsReached start first (before ++ concat (chunks_of items all)) (given ++ bytes_given gives) new.core × (new.control ≡ old.control)
  chunks start first calm [] before given old reached drained gives new (none, same) = (
    subst (λ (l : List ℕ). IsReached start first l (given ++ bytes_given gives) new.core) (sym (append-nil before))
        (subst (λ (l : List ℕ). IsReached start first before l new.core) (sym (ap (λ (l : List PeerPayload). given ++ bytes_given l) none ∙ append-nil given))
        (subst (λ (k : ClientState). IsReached start first before given k.core) (sym same) reached)),
    ap (λ (k : ClientState). k.control) same,
  )
  chunks start first calm (came ∷ others) before given old reached drained gives new (between, now_given, later, is, parts, rest) =
      let one = more start first calm before given old reached drained came now_given between is in
      let all = chunks start first calm others (before ++ items came.bytes) (given ++ bytes_given now_given) between one.0 (subst IsControlDrained (sym one.1) drained) later new rest in
      let reported : (given ++ bytes_given now_given) ++ bytes_given later ≡ given ++ bytes_given gives =
      append_assoc given (bytes_given now_given) (bytes_given later) ∙ ap (λ (l : List ℕ). given ++ l) (both_given now_given later ∙ ap bytes_given (sym parts)) in (
        subst (λ (l : List ℕ). IsReached start first l (given ++ bytes_given gives) new.core) (append_assoc before (items came.bytes) (concat (chunks_of items others)))
            (subst (λ (l : List ℕ). IsReached start first ((before ++ items came.bytes) ++ concat (chunks_of items others)) l new.core) reported all.0),
        all.1 ∙ one.1,
      )

  -- ---- at the beginning

  abbrev stream_of : Option Connection → Stream
  stream_of None = alive []
  stream_of (Some c) = c.stream

  none_raw_stored : (k : Connection) → has_raw (with_stream (alive []) k) ≡ false
  none_raw_stored k = by k.awaited refl
    where
      by : (o : Option Binding) → k.awaited ≡ o → has_raw (with_stream (alive []) k) ≡ false
      by None is = rw is refl
      by (Some b) is = rw is refl

  stored_by : (s : Stream) (o : Option Connection) (k : Connection) → option_map (with_stream s) o ≡ Some k → k.stream ≡ s
  stored_by s None k is = absurd (Prim.cc is)
  stored_by s (Some c) k is = let same : with_stream s c ≡ k = Prim.cc is in ap (λ (x : Connection). x.stream) (sym same)

  module _ (old : ClientState) (out : IsSocketDrained here old) where
    first_calm : IsCalm here (with_stored here (alive []) old.core)
    first_calm = record {
      apart = out.apart;
      none_raw = stored_none here (alive []) old.core out.none_raw (λ k is. none_raw_stored k);
      nothing = λ k found. stored_by (alive []) (from here old.core.allocations) k (sym (from_exchanged here (alive []) old.core.allocations) ∙ found);
    }

    begins_gone : from here old.core.allocations ≡ None → IsReached (alive []) (with_stored here (alive []) old.core) [] [] old.core
    begins_gone gone =
        let there : from here (with_stored here (alive []) old.core).allocations ≡ None = from_exchanged here (alive []) old.core.allocations ∙ ap (option_map (with_stream (alive []))) gone in
        record {
          left = alive [];
          middle = with_stored here (alive []) old.core;
          fed = Stops (alive []) (with_stored here (alive []) old.core) (gone_not (with_stored here (alive []) old.core) there);
          out = subst (λ (o : Option Connection). IsOutBy o (alive []) (with_stored here (alive []) old.core) [] old.core) (sym there)
              (refl, sym (stored_same here (alive []) old.core (λ k found. absurd (Prim.cc (sym gone ∙ found)))));
        }

    module _ (c : Connection) (found : from here old.core.allocations ≡ Some c) where
      there : from here (with_stored here (alive []) old.core).allocations ≡ Some (with_stream (alive []) c)
      there = from_exchanged here (alive []) old.core.allocations ∙ ap (option_map (with_stream (alive []))) found

      is_it : (k : Connection) → from here old.core.allocations ≡ Some k → k ≡ c
      is_it k is = Prim.cc (sym is ∙ found)

      begins_bound : c.awaited ≡ None → c.stream ≡ alive [] → IsReached c.stream (with_stored here (alive []) old.core) [] [] old.core
      begins_bound bound empty = record {
        left = joined c.stream [];
        middle = with_stored here (alive []) old.core;
        fed = Stops (joined c.stream []) (with_stored here (alive []) old.core) (bound_not (with_stored here (alive []) old.core) (with_stream (alive []) c) there bound);
        out = subst (λ (o : Option Connection). IsOutBy o (joined c.stream []) (with_stored here (alive []) old.core) [] old.core) (sym there)
            (subst (λ (o : Option Binding). IsOutOf o (joined c.stream []) (with_stored here (alive []) old.core) [] old.core) (sym bound)
            (sym (ap (λ (s : Stream). s.stored ++ []) empty), sym (stored_same here (alive []) old.core (λ k is. ap (λ (x : Connection). x.stream) (is_it k is) ∙ empty))));
      }

      begins_awaits : (b : Binding) → c.awaited ≡ Some b → HasNoFrame c.stream → IsReached c.stream (with_stored here (alive []) old.core) [] [] old.core
      begins_awaits b awaited none =
          let whole : joined c.stream [] ≡ c.stream = ap (λ (l : List ℕ). record { stored = l; dead = c.stream.dead }) (append-nil c.stream.stored) in
          let left_is : after_look (joined c.stream []) ≡ c.stream = ap after_look whole ∙ none.left in
          let same : old.core ≡ with_stored here (after_look (joined c.stream [])) (with_stored here (alive []) old.core) =
          sym (ap (λ (s : Stream). with_stored here s (with_stored here (alive []) old.core)) left_is ∙ stored_twice here c.stream (alive []) old.core
          ∙ stored_same here c.stream old.core (λ k is. ap (λ (x : Connection). x.stream) (is_it k is))) in
          record {
            left = after_look (joined c.stream []);
            middle = with_stored here (alive []) old.core;
            fed = Waits (joined c.stream []) (with_stored here (alive []) old.core) (awaits_so (with_stored here (alive []) old.core) (with_stream (alive []) c) b there awaited)
                (subst (λ (s : Stream). IsNone (looked s)) (sym whole) none.none);
            out = subst (λ (o : Option Connection). IsOutBy o (after_look (joined c.stream [])) (with_stored here (alive []) old.core) [] old.core) (sym there)
                (subst (λ (o : Option Binding). IsOutOf o (after_look (joined c.stream [])) (with_stored here (alive []) old.core) [] old.core) (sym awaited) (refl, same));
          }

      begins_by : (o : Option Binding) → c.awaited ≡ o → IsConnectionDrained o c.stream → IsReached c.stream (with_stored here (alive []) old.core) [] [] old.core
      begins_by None is empty = begins_bound is empty
      begins_by (Some b) is none = begins_awaits b is none

    begins : (o : Option Connection) → from here old.core.allocations ≡ o → IsReached (stream_of o) (with_stored here (alive []) old.core) [] [] old.core
    begins None gone = begins_gone gone
    begins (Some c) found = begins_by c found c.awaited refl (out.drained c found)

  pub cut_anywhere_over : (old one other : ClientState) (all cuts : List (Transmit T)) (given again : List PeerPayload) → IsSocketDrained here old → concat (chunks_of items all) ≡ concat (chunks_of items cuts)
      → AreDrainedOver items here now old all given one → AreDrainedOver items here now old cuts again other → (bytes_given given ≡ bytes_given again) × (one ≡ other)
  cut_anywhere_over old one other all cuts given again out same left right =
      let start = stream_of (from here old.core.allocations) in
      let first = with_stored here (alive []) old.core in
      let started = begins old out (from here old.core.allocations) refl in
      let a = chunks start first (first_calm old out) all [] [] old started out.control given one left in
      let b = chunks start first (first_calm old out) cuts [] [] old started out.control again other right in
      let both = reached_same start first (concat (chunks_of items all)) (bytes_given given) (bytes_given again) one.core other.core a.0
      (subst (λ (l : List ℕ). IsReached start first l (bytes_given again) other.core) (sym same) b.0) in
      (both.0, alike one other both.1 (a.1 ∙ sym b.1))
