-- Bytes that change nothing at a client to which nothing is allocated, whatever its settings.
use Rattle.std.proofs.Common.{◌≡◌, ◌≢◌, ℕ, Bool, true, false, List, [], Option, Some, None, refl, sym, ap, ◌∙◌, subst, ◌⊎◌, inl, inr}
use Rattle.std.specs.Prelude.{◌&&◌, Vec, MatchOption, is_none, if◌then◌else◌}
use Rattle.std.specs.Borrow.{Bor}
use Rattle.std.specs.Option.{option_map}
use Rattle.std.specs.declared.alloc.Global.{Global}
use Rattle.std.specs.declared.net.ip_addr.IpAddr.{IpAddr}
use Rattle.std.specs.declared.net.socket_addr.SocketAddr.{SocketAddr}
use Rattle.std.specs.Net.Socket.{socket_ip}
use Rattle.turn_desk_core.specs.StunTypesBase.declared.transmit.Transmit.{Transmit}
use Rattle.turn_desk_core.specs.StunTypesWire.Grammar.{refusal}
use Rattle.turn_desk_core.specs.StunTypesWire.declared.error.StunParseError.{StunParseError}
use Rattle.turn_client_proto_messages.specs.TurnTypesFrame.ChannelFrames.{channel_refusal, frame_at}
use Rattle.turn_client_proto_messages.specs.TurnRuns.Indications.{is_data, peer_reported}
use Rattle.turn_client_proto_api.specs.declared.answer.TurnRecvRet.{TurnRecvRet}
use Rattle.turn_client_proto_api.specs.declared.answer.TurnRecvRet.TheVariants as recv
use Rattle.turn_client_proto_messages.specs.Allocation.Same.{is_same_address, is_same_transport}
use Rattle.turn_client_proto_messages.specs.Allocation.declared.allocation.Allocation.{Allocation}
use Rattle.turn_client_proto_messages.specs.Allocation.declared.connection.Connection.{Connection}
use Rattle.turn_client_proto_handshake_laws.specs.Core.Deleting.{is_authenticated}
use Rattle.turn_client_proto_step_laws.specs.Connection.Streams as joined
use Rattle.turn_client_proto_step_laws.specs.Payload.declared.payload.Payload.{Payload}
use Rattle.turn_client_proto_step_laws.specs.Payload.Payloads.{bound, carried_for, carried_over, framed_by, payload_framed, payload_of, payload_reported, permitted}
use Rattle.turn_client_proto_step_laws.specs.Recv.Control.{Control, Datagrams, Open, Closed}
use Rattle.turn_client_proto_step_laws.specs.Recv.ClientState.{ClientState, Protocol}
use Rattle.turn_client_proto_step_laws.specs.Recv.Datagrams.{Foreign, Own, IsDatagramTaken, IsDelivered, IsGivenBack, IsOfServer, IsRead}
use Rattle.turn_client_proto_step_laws.specs.Recv.Receipts.{Chunk, End, Strange, IsReceived, IsReceivedBy}
use Rattle.turn_client_proto_step_laws.specs.Recv.SocketChunks.{IsReceivedAt, IsTakenBy, socket_of}
use Rattle.turn_client_proto_handshake_laws.specs.Coming.{IsUnserved}
use Rattle.turn_client_proto_handshake_laws.specs.Sent.{Beginning}
use Rattle.turn_desk_event.specs.declared.answer.Answer.{Answer}
use Rattle.turn_desk_event.specs.declared.answer.Answer.TheVariants as answer
use Rattle.turn_desk_event.specs.declared.event.Event.TheVariants.{ToClient}
use Rattle.turn_desk_world_laws.specs.World.Calls.{IsFed, IsReported}
use Rattle.turn_desk_world_laws.specs.World.Model.{World}
use Rattle.turn_desk_world_laws.specs.World.Runs.{IsStep}
use Rattle.turn_desk_progress_laws.specs.Promises.{event_in, over}
use Rattle.turn_desk_progress_laws.proofs.Clients.{Rests, done, same_world, stays}
use Rattle.turn_desk_progress_laws.proofs.Coming.{silent}

module _ (b : Beginning) (p : Protocol) (u : IsUnserved b p) where
  -- ---- nothing is delivered

  carries_none : (bytes : List ℕ) (peer : Option SocketAddr) → carried_for p.allocations bytes peer ≡ None
  carries_none bytes None = refl
  carries_none bytes (Some peer) = ap (carried_over bytes peer) (ap (permitted (socket_ip peer)) u.allocations)

  no_report : (bytes : List ℕ) → payload_reported p bytes ≡ None
  unfolding payload_reported
  no_report bytes = by (is_authenticated p.phase && is_data bytes)
    where
      by : (x : Bool) → (if x then carried_for p.allocations bytes (peer_reported bytes) else None) ≡ None
      by true = carries_none bytes (peer_reported bytes)
      by false = refl

  no_frame : (bytes : List ℕ) → payload_framed p bytes ≡ None
  unfolding payload_framed
  no_frame bytes = by (is_none (channel_refusal bytes))
    where
      by : (x : Bool) → (if x then option_map (framed_by (frame_at bytes)) (bound (frame_at bytes).id p.allocations) else None) ≡ None
      by true = ap (option_map (framed_by (frame_at bytes))) (ap (bound (frame_at bytes).id) u.allocations)
      by false = refl

  no_payload : (bytes : List ℕ) → payload_of p bytes ≡ None
  unfolding payload_of
  no_payload bytes = by (is_none (refusal bytes))
    where
      by : (x : Bool) → (if x then payload_reported p bytes else payload_framed p bytes) ≡ None
      by true = no_report bytes
      by false = no_frame bytes

  -- No connection has a socket.
  no_socket : (came : Transmit (Bor (List ℕ))) → socket_of p came ≡ None
  no_socket came = by (is_same_transport came.transport p.agent.transport && is_same_address came.from p.server)
    where
      by : (x : Bool) → (if x then joined.from came.to p.allocations else None) ≡ None
      by true = ap (joined.from came.to) u.allocations
      by false = refl

  -- ---- bytes that are not of the connection with the server

  module _ (came : Transmit (Bor (List ℕ))) (now : ℕ) (took : TurnRecvRet (Bor (List ℕ))) where
    abbrev items : Bor (List ℕ) → List ℕ
    items x = x.now

    module _ (elsewhere : (came.from ≢ b.server) ⊎ (came.to ≢ b.here)) where
      never_own : {A : Type 0} → IsOfServer p came → A
      never_own own = elim elsewhere [
        | inl from ↦ absurd (from (own.from ∙ u.settings.server))
        | inr to ↦ absurd (to (own.to ∙ u.settings.here))
      ]

      strayed_at : (q : Protocol) → IsReceivedAt items now p came took q → q ≡ p
      strayed_at q is = (subst (λ (o : Option Connection). MatchOption o (IsGivenBack p came took q) (λ (c : Connection). IsTakenBy items c now p came took q)) (no_socket came) is).1

      strayed_datagram : (q : Protocol) → IsDatagramTaken items p came now took q → q ≡ p
      strayed_datagram q (Own own is) = never_own own
      strayed_datagram q (Foreign foreign back) = back.1

      pub strayed : (c : Control) (k : ClientState) → IsReceived items (over c p) came now took k → k ≡ over c p
      strayed Datagrams k is = stays Datagrams k is.1 ∙ ap (over Datagrams) (strayed_datagram k.core is.0)
      strayed (Open stream) k (Chunk of some left control is) = never_own of.of_server
      strayed (Open stream) k (End of none took_so core control) = never_own of.of_server
      strayed (Open stream) k (Strange not_of is control) = stays (Open stream) k control ∙ ap (over (Open stream)) (strayed_at k.core is)
      strayed Closed k is = stays Closed k is.1 ∙ ap (over Closed) (strayed_at k.core is.0)

    -- ---- datagrams that are no messages

    module _ (bytes : List ℕ) (same : came.bytes.now ≡ bytes) (none : refusal bytes ≢ None) where
      read : (q : Protocol) (o : Option StunParseError) → refusal bytes ≡ o → IsRead o p bytes came now took q → q ≡ p
      read q None message is = absurd (none message)
      read q (Some error) some is = is.1

      garbled_datagram : (q : Protocol) → IsDatagramTaken items p came now took q → q ≡ p
      garbled_datagram q (Foreign foreign back) = back.1
      garbled_datagram q (Own own is) =
          let of = subst (λ (l : List ℕ). MatchOption (payload_of p l) (IsRead (refusal l) p l came now took q) (λ (payload : Payload). IsDelivered items came payload took × (q ≡ p))) same is in
          read q (refusal bytes) refl
          (subst (λ (o : Option Payload). MatchOption o (IsRead (refusal bytes) p bytes came now took q) (λ (payload : Payload). IsDelivered items came payload took × (q ≡ p))) (no_payload bytes) of)

      pub garbled : (k : ClientState) → IsReceived items (over Datagrams p) came now took k → k ≡ over Datagrams p
      garbled k is = stays Datagrams k is.1 ∙ ap (over Datagrams) (garbled_datagram k.core is.0)

  -- ---- in a simulation

  module _ (w v : World) (bytes : Vec ℕ Global) (from to : SocketAddr) (now : ℕ) (ret : Answer) where
    rests_if : (c : Control) → ((k : ClientState) → IsFed ret (over c p) bytes.items from to now k → k ≡ over c p) → w.client ≡ Some (over c p) → IsStep (ToClient bytes from to now) w ret v → Rests ret w v
    rests_if c so at step =
        let d = done c now _ p w.client v.client ret at step.0 in
        elim d.outcome [
          | inl does ↦ (let f : IsFed ret (over c p) bytes.items from to now d.after = does.1 in
              record { same = same_world w v step.1 (d.there ∙ ap Some (so d.after f) ∙ sym at); silent = silent f.took ret f.reported })
          | inr out ↦ record { same = same_world w v step.1 (d.there ∙ ap Some out.1 ∙ sym at); silent = ap event_in out.0 }
        ]

    -- Bytes from elsewhere change nothing.
    pub strays : (c : Control) → (from ≢ b.server) ⊎ (to ≢ b.here) → w.client ≡ Some (over c p) → IsStep (ToClient bytes from to now) w ret v → Rests ret w v
    strays c elsewhere at step = rests_if c so at step
      where
        own : (k : ClientState) (f : IsFed ret (over c p) bytes.items from to now k) → (f.came.from ≢ b.server) ⊎ (f.came.to ≢ b.here)
        own k f = elim elsewhere [
          | inl far ↦ inl (λ near. far (sym f.from_is ∙ near))
          | inr far ↦ inr (λ near. far (sym f.to_is ∙ near))
        ]

        so : (k : ClientState) → IsFed ret (over c p) bytes.items from to now k → k ≡ over c p
        so k f = strayed f.came now f.took (own k f) c k f.received

    -- Nor does a datagram that is no message.
    pub garbles : refusal bytes.items ≢ None → w.client ≡ Some (over Datagrams p) → IsStep (ToClient bytes from to now) w ret v → Rests ret w v
    garbles none at step = rests_if Datagrams (λ k f. garbled f.came now f.took bytes.items f.bytes_are none k f.received) at step
