-- Bytes come over the socket of a connection that is to be bound, by the contract of `recv` alone.
use Rattle.std.proofs.Common.{◌≡◌, ◌≢◌, ℕ, ◌++◌, arith, Bool, true, false, List, [], ◌∷◌, length, Option, Some, None, refl, sym, ap, ◌∙◌, subst, ◌⊎◌, inl, inr}
use Rattle.std.specs.Prelude.{MatchOption, is_some, ◌==◌}
use Rattle.std.specs.Bool.{MatchBool}
use Rattle.std.proofs.lemmas.Bool.{cases_Bool, eqb-true}
use Rattle.std.specs.declared.net.socket_addr.SocketAddr.{SocketAddr}
use Rattle.turn_client_proto_messages.specs.StunTypesWire.Grammar.{refusal}
use Rattle.turn_client_proto_messages.specs.StunTypesWire.declared.error.StunParseError.{StunParseError}
use Rattle.turn_client_proto_messages.specs.StunTypesBase.declared.transmit.Transmit.{Transmit}
use Rattle.turn_client_proto_messages.specs.StunTypesBase.declared.transport.TransportType.{TransportType}
use Rattle.turn_client_proto_messages.specs.StunTypesBase.declared.transport.TransportType.TheVariants.{Udp, Tcp}
use Rattle.turn_client_proto_messages.specs.TurnTypesFrame.declared.head.FrameHead.{FrameHead}
use Rattle.turn_client_proto_messages.specs.TurnTypesFrame.declared.head.FrameHead.TheVariants.{Incomplete}
use Rattle.turn_client_proto_messages.specs.TurnTypesFrame.StreamAnswers.{IsNone, looked}
use Rattle.turn_client_proto_messages.specs.TurnTypesFrame.Streams.{Stream, alive, left_by}
use Rattle.turn_client_proto_messages.specs.Allocation.declared.allocation.Allocation.{Allocation}
use Rattle.turn_client_proto_messages.specs.Allocation.declared.connection.Connection.{Connection}
use Rattle.turn_client_proto_messages.specs.Allocation.declared.permission.Permission.{Permission}
use Rattle.turn_client_proto_messages.specs.Api.declared.answer.TurnRecvRet.{TurnRecvRet}
use Rattle.turn_client_proto_messages.specs.Api.declared.answer.TurnRecvRet.TheVariants as recv
use Rattle.turn_client_proto_messages.specs.Api.declared.event.TurnEvent.{TurnEvent}
use Rattle.turn_client_proto_step_laws.specs.Connection.Streams.{exchanged, from}
use Rattle.turn_client_proto_step_laws.specs.Recv.Control.{Control, Open}
use Rattle.turn_client_proto_handshake_laws.specs.Core.Receiving.{IsProcessed}
use Rattle.turn_client_proto_handshake_laws.specs.Core.declared.protocol.Protocol.{Protocol}
use Rattle.turn_client_proto_step_laws.specs.Recv.Datagrams.{IsGivenBack}
use Rattle.turn_client_proto_step_laws.specs.Recv.Processing.{IsProcessedAt}
use Rattle.turn_client_proto_step_laws.specs.Recv.ClientState.{ClientState}
use Rattle.turn_client_proto_messages.specs.Allocation.Same.{is_same_address, is_same_transport}
use Rattle.turn_client_proto_step_laws.specs.Recv.Receipts.{End, IsReceived, IsReceivedBy, IsStreamed, Chunk, Strange}
use Rattle.turn_client_proto_step_laws.specs.Recv.SocketChunks.{Fed, Processes, IsEnded, IsFed, IsFrameProcessed, IsMessageProcessed, IsChunkFed, IsReceivedAt, IsTakenBy, IsTakenFor, LostFrames, Stops, Waits, is_joining, socket_of, with_stored}
use Rattle.turn_client_proto_handshake_laws.specs.Requested.{Requested}
use Rattle.turn_client_proto_handshake_laws.specs.Coming.{IsPartOf}
use Rattle.turn_client_proto_step_laws.proofs.SameSockets.{same_itself}
use Rattle.turn_client_proto_progress_laws.specs.Holders.{Holder}
use Rattle.turn_client_proto_progress_laws.specs.TcpBinding.{HasSentBind, joining}
use Rattle.turn_client_proto_progress_laws.specs.Overs.{IsFromServerTo}
use Rattle.turn_client_proto_progress_laws.proofs.TcpBinding.Bound.{awaited_here, connection_from}
use Rattle.turn_client_proto_progress_laws.proofs.TcpBinding.Heads.{whole_frame, whole_left, whole_look}
use Rattle.turn_client_proto_handshake_laws.proofs.StreamHeads.{part_head}
use Rattle.turn_client_proto_progress_laws.proofs.TcpBinding.Same.{apart_address}

itself_transport : (t : TransportType) → is_same_transport t t ≡ true
itself_transport Udp = refl
itself_transport Tcp = refl

some_there : (b : List ℕ) → b ≢ [] → (length b == 0) ≡ false
some_there [] some = absurd (some refl)
some_there (x ∷ xs) some = elim (cases_Bool (length (x ∷ xs) == 0)) [
  | inl is ↦ absurd (let none = eqb-true (length (x ∷ xs)) 0 is in omega arith)
  | inr other ↦ other
]

module _ (h : Holder) (older : List Requested) (permissions : List Permission) (here peer : SocketAddr) (connection number made last : ℕ) (head : List ℕ) (events : List TurnEvent) (k : ClientState)
    (w : HasSentBind h older permissions here peer connection number made last head events k.core) (apart : here ≢ h.started.here) where
  -- The client with other buffered bytes of its socket.
  abbrev pub keeping : (stored : List ℕ) → Protocol
  keeping stored = with_stored here (alive stored) k.core

  pub stored_so : (stored : List ℕ) → HasSentBind h older permissions here peer connection number made last stored events (keeping stored)
  stored_so stored = record {
    settings = record {
      server = w.settings.server;
      remote = w.settings.remote;
      transport = w.settings.transport;
      here = w.settings.here;
      waits = w.settings.waits;
      allocates = w.settings.allocates;
      families = w.settings.families;
      options = w.settings.options;
      pace = w.settings.pace;
      indications = w.settings.indications;
      usual = w.settings.usual;
    };
    signs = w.signs;
    outstanding = w.outstanding;
    phase = w.phase;
    auth_is = w.auth_is;
    allocations = ap (exchanged here (alive stored)) w.allocations ∙ rw (same_itself here) refl;
    queue_is = w.queue_is;
    last_send = w.last_send;
    events_are = w.events_are;
    closing = w.closing;
  }

  abbrev joins : (stored : List ℕ) → is_joining here (keeping stored) ≡ true
  joins stored = ap is_some (awaited_here h older permissions here peer connection number made last stored events (keeping stored) (stored_so stored))

  module _ {T : Type 0} (items : T → List ℕ) (stream : Stream) (occurs : k.control ≡ Open stream) (came : Transmit T) (over : IsFromServerTo h.started here came) (now : ℕ) (answer : TurnRecvRet T) (k2 : ClientState) (some : items came.bytes ≢ []) where
    at_socket : IsStreamed items now stream k.core came answer k2 → IsReceivedAt items now k.core came answer k2.core × (k2.control ≡ Open stream)
    at_socket (Chunk own more left control taken) = absurd (apart (sym over.to ∙ (own.of_server.to ∙ w.settings.here)))
    at_socket (End own none reported same control) = absurd (apart (sym over.to ∙ (own.of_server.to ∙ w.settings.here)))
    at_socket (Strange foreign received control) = (received, control)

    socket_is : socket_of k.core came ≡ Some (joining here peer connection number made head)
    socket_is =
        let way : is_same_transport came.transport k.core.agent.transport ≡ true =
        ap (λ (t : TransportType). is_same_transport t k.core.agent.transport) (over.transport ∙ sym w.settings.transport) ∙ itself_transport k.core.agent.transport in
        let source : is_same_address came.from k.core.server ≡ true =
        ap (λ (x : SocketAddr). is_same_address x k.core.server) (over.from ∙ sym w.settings.server) ∙ same_itself k.core.server in
        let is : socket_of k.core came ≡ from came.to k.core.allocations = rw (way, source) refl in
        is ∙ (ap (λ (x : SocketAddr). from x k.core.allocations) over.to ∙ connection_from h older permissions here peer connection number made last head events k.core w)

    -- What came is appended to what is buffered.
    pub record IsFedOn : Type 0 where
      pub left : Stream
      pub middle : Protocol
      pub fed : IsFed here now (alive (head ++ items came.bytes)) (keeping []) left middle
      pub after : k2.core ≡ with_stored here left middle
      pub stays : k2.control ≡ k.control

    fed_on : k2.control ≡ k.control → IsTakenFor items (joining here peer connection number made head) now k.core came answer k2.core → IsFedOn ⊎ (answer ≡ recv.NoMemory came)
    fed_on stays t = by t.fed t.after
      where
        by : IsChunkFed items came.to now (alive head) (with_stored came.to (alive []) k.core) came answer t.left t.middle → k2.core ≡ with_stored came.to t.left t.middle → IsFedOn ⊎ (answer ≡ recv.NoMemory came)
        by (Fed fed handled) after = inl (record {
          left = t.left;
          middle = t.middle;
          fed = subst (λ (x : SocketAddr). IsFed x now (alive (head ++ items came.bytes)) (with_stored x (alive []) k.core) t.left t.middle) over.to fed;
          after = after ∙ ap (λ (x : SocketAddr). with_stored x t.left t.middle) over.to;
          stays = stays;
        })
        by (LostFrames reported lost) after = inr reported

    pub chunk_fed : IsReceived items k came now answer k2 → IsFedOn ⊎ (answer ≡ recv.NoMemory came)
    chunk_fed received =
        let at = at_socket (subst (λ (c : Control). IsReceivedBy items now c k.core came answer k2) occurs received) in
        let t : IsTakenBy items (joining here peer connection number made head) now k.core came answer k2.core =
        subst (λ (o : Option Connection). MatchOption o (IsGivenBack k.core came answer k2.core) (λ c. IsTakenBy items c now k.core came answer k2.core)) socket_is at.0 in
        fed_on (at.1 ∙ sym occurs) (subst (λ (b : Bool). MatchBool b (IsEnded k.core came answer k2.core) (IsTakenFor items (joining here peer connection number made head) now k.core came answer k2.core)) (some_there (items came.bytes) some) t)

    -- ---- a chunk that doesn't end a message

    module _ (message : List ℕ) (part : IsPartOf (head ++ items came.bytes) message) (f : IsFedOn) where
      abbrev s : Stream
      s = alive (head ++ items came.bytes)

      incomplete : looked s ≡ Incomplete
      incomplete = part_head (head ++ items came.bytes) message part

      none : IsNone (looked s)
      none = subst IsNone (sym incomplete) tt

      waits : (left : Stream) (middle : Protocol) → IsFed here now s (keeping []) left middle → (left ≡ s) × (middle ≡ keeping [])
      waits _ _ (Stops stream state stops) = absurd (Prim.cc (sym (joins []) ∙ stops))
      waits _ _ (Waits stream state still nothing) = (ap (λ (x : FrameHead). left_by x (head ++ items came.bytes)) incomplete, refl)
      waits _ _ (Processes stream state middle left after still one processed more) = absurd (one none)

      twice : with_stored here s (keeping []) ≡ keeping (head ++ items came.bytes)
      twice =
          ap (λ (l : List Allocation). record k.core { allocations = l })
          (ap (exchanged here s) (stored_so []).allocations ∙ (rw (same_itself here) refl ∙ sym (stored_so (head ++ items came.bytes)).allocations))

      pub chunk_stored : HasSentBind h older permissions here peer connection number made last (head ++ items came.bytes) events k2.core × (k2.control ≡ k.control)
      chunk_stored =
          let is = waits f.left f.middle f.fed in (
            subst (λ (x : Protocol). HasSentBind h older permissions here peer connection number made last (head ++ items came.bytes) events x)
                (sym (f.after ∙ (ap (λ (x : Stream). with_stored here x f.middle) is.0 ∙ (ap (with_stored here s) is.1 ∙ twice)))) (stored_so (head ++ items came.bytes)),
            f.stays,
          )

    -- ---- one that ends it

    module _ (message more : List ℕ) (is : refusal message ≡ None) (parts : head ++ items came.bytes ≡ message ++ more) (f : IsFedOn) where
      -- The message is handled, and then what follows it.
      pub record IsProcessedFirst : Type 0 where
        pub between : Protocol
        pub processed : IsProcessedAt here (keeping []) message now between
        pub following : IsFed here now (alive more) between f.left f.middle

      of_message : (q : Protocol) → IsFrameProcessed here now (keeping []) message q → IsProcessedAt here (keeping []) message now q
      of_message q frame =
          let own : is_same_address here k.core.agent.here ≡ false = ap (is_same_address here) w.settings.here ∙ apart_address here h.started.here apart in
          let m : IsMessageProcessed here now (keeping []) message q = subst (λ (o : Option StunParseError). MatchOption o (IsMessageProcessed here now (keeping []) message q) (λ error. q ≡ keeping [])) is frame.1 in
          subst (λ (b : Bool). MatchBool b ((handled : Bool) × IsProcessed (keeping []) message now handled q) (IsProcessedAt here (keeping []) message now q)) own m

      by_fed : (left : Stream) (middle : Protocol) → IsFed here now (alive (message ++ more)) (keeping []) left middle → (between : Protocol) × IsProcessedAt here (keeping []) message now between × IsFed here now (alive more) between left middle
      by_fed _ _ (Stops stream state stops) = absurd (Prim.cc (sym (joins []) ∙ stops))
      by_fed _ _ (Waits stream state still nothing) = absurd (subst IsNone (whole_look message more is) nothing)
      by_fed _ _ (Processes stream state between left after still one processed following) = (
        between,
        of_message between (subst (λ (l : List ℕ). IsFrameProcessed here now (keeping []) l between) (whole_frame message more is) processed),
        subst (λ (x : Stream). IsFed here now x between left after) (whole_left message more is) following,
      )

      pub processed_first : IsProcessedFirst
      processed_first =
          let x = by_fed f.left f.middle (subst (λ (l : List ℕ). IsFed here now (alive l) (keeping []) f.left f.middle) parts f.fed) in
          record { between = x.0; processed = x.1; following = x.2 }
