-- What a client does with a chunk that completes the response to its CONNECTION_BIND.
use Rattle.std.proofs.Common.{◌≡◌, ◌≢◌, ℕ, ◌<◌, ◌^◌, ◌++◌, false, List, [], ◌∷◌, Some, None, refl, sym, ap, ◌∙◌, subst}
use Rattle.std.specs.Prelude.{is_some, option_and_then}
use Rattle.std.specs.declared.net.socket_addr.SocketAddr.{SocketAddr}
use Rattle.turn_client_proto_messages.specs.StunTypesWire.Grammar.{refusal}
use Rattle.turn_client_proto_messages.specs.StunTypesWire.declared.algorithm.IntegrityAlgorithm.{IntegrityAlgorithm}
use Rattle.turn_client_proto_messages.specs.StunTypesBase.declared.transmit.Transmit.{Transmit}
use Rattle.turn_client_proto_messages.specs.StunProtoClient.Challenges.{ChallengeFields}
use Rattle.turn_client_proto_messages.specs.TurnTypesFrame.Streams.{Stream, alive}
use Rattle.turn_client_proto_messages.specs.TurnTypesAttributes.TurnRegistry.{connection_bind_method}
use Rattle.turn_client_proto_messages.specs.Allocation.declared.allocation.Allocation.{Allocation}
use Rattle.turn_client_proto_messages.specs.Allocation.declared.permission.Permission.{Permission}
use Rattle.turn_client_proto_messages.specs.Api.declared.answer.TurnRecvRet.{TurnRecvRet}
use Rattle.turn_client_proto_messages.specs.Api.declared.event.TurnEvent.{TurnEvent}
use Rattle.turn_client_proto_messages.specs.Api.declared.event.TurnEvent.TheVariants.{TcpConnected}
use Rattle.turn_client_proto_step_laws.specs.Connection.Streams.{exchanged, from}
use Rattle.turn_client_proto_step_laws.specs.Recv.Control.{Open}
use Rattle.turn_client_proto_handshake_laws.specs.Core.declared.protocol.Protocol.{Protocol}
use Rattle.turn_client_proto_step_laws.specs.Recv.Processing.{joining_of}
use Rattle.turn_client_proto_step_laws.specs.Recv.ClientState.{ClientState}
use Rattle.turn_client_proto_step_laws.specs.Recv.SocketChunks.{Processes, IsFed, Stops, Waits, is_joining, with_stored}
use Rattle.turn_client_proto_handshake_laws.specs.Requested.{Requested}
use Rattle.turn_client_proto_progress_laws.proofs.TcpBinding.Tools.{AreNumbered, StayRead, StayShort}
use Rattle.turn_client_proto_step_laws.proofs.SameSockets.{same_itself}
use Rattle.turn_client_proto_progress_laws.specs.Holders.{Holder}
use Rattle.turn_client_proto_progress_laws.specs.TcpBinding.{HasRequestedBind, HasSentBind, IsBound, bind_request, joined_by}
use Rattle.turn_client_proto_progress_laws.specs.Overs.{IsFromServerTo}
use Rattle.turn_client_proto_progress_laws.specs.Replies.{CanAnswer, IsChallengeOf, IsSuccessOf, challenged_by}
use Rattle.turn_client_proto_progress_laws.proofs.TcpBinding.Bound.{bound_processed}
use Rattle.turn_client_proto_handshake_laws.proofs.StreamHeads.{none_started, nothing_left}
use Rattle.turn_client_proto_progress_laws.proofs.TcpBinding.Chunks.{IsFedOn, processed_first, keeping, stored_so}
use Rattle.turn_client_proto_progress_laws.proofs.TcpBinding.Rebound.{challenge_processed}

-- A client whose connection is bound buffers other bytes of its socket.
bound_stored : (h : Holder) (older : List Requested) (permissions : List Permission) (here peer : SocketAddr) (connection last : ℕ) (before after : Stream) (events : List TurnEvent) (p : Protocol)
    → IsBound h older permissions here peer connection last before events p → IsBound h older permissions here peer connection last after events (with_stored here after p)
bound_stored h older permissions here peer connection last before after events p w = record {
  settings = record {
    server = w.settings.server;
    remote = w.settings.remote;
    transport = w.settings.transport;
    here = w.settings.here;
    waits = w.settings.waits;
    allocates = w.settings.allocates;
    families = w.settings.families;
    options = w.settings.options;
    pace = w.settings.pace;
    indications = w.settings.indications;
    usual = w.settings.usual;
  };
  signs = w.signs;
  outstanding = w.outstanding;
  phase = w.phase;
  auth_is = w.auth_is;
  allocations = ap (exchanged here after) w.allocations ∙ rw (same_itself here) refl;
  queue_is = w.queue_is;
  last_send = w.last_send;
  events_are = w.events_are;
  closing = w.closing;
}

-- The bytes of a bound connection are no frames any more.
bound_stops : (h : Holder) (older : List Requested) (permissions : List Permission) (here peer : SocketAddr) (connection last : ℕ) (stream : Stream) (events : List TurnEvent) (p : Protocol)
    → IsBound h older permissions here peer connection last stream events p → is_joining here p ≡ false
bound_stops h older permissions here peer connection last stream events p w =
    let own : from here p.allocations ≡ Some (joined_by here peer connection stream) = ap (from here) w.allocations ∙ rw (same_itself here) (rw (same_itself here) refl) in
    ap (λ o. is_some (option_and_then joining_of o)) own

stopped : (here : SocketAddr) (now : ℕ) (s : Stream) (p : Protocol) (left : Stream) (q : Protocol) → is_joining here p ≡ false → IsFed here now s p left q → (left ≡ s) × (q ≡ p)
stopped here now _ _ _ _ not (Stops stream state stops) = (refl, refl)
stopped here now _ _ _ _ not (Waits stream state joins nothing) = absurd (Prim.cc (sym joins ∙ not))
stopped here now _ _ _ _ not (Processes stream state middle left after joins one processed more) = absurd (Prim.cc (sym joins ∙ not))

-- If nothing follows, nothing more is handled.
empty : (here : SocketAddr) (now : ℕ) (p : Protocol) (left : Stream) (q : Protocol) → IsFed here now (alive []) p left q → (left ≡ alive []) × (q ≡ p)
empty here now _ _ _ (Stops stream state stops) = (refl, refl)
empty here now _ _ _ (Waits stream state joins nothing) = (nothing_left, refl)
empty here now _ _ _ (Processes stream state middle left after joins one processed more) = absurd (one none_started)

module _ (h : Holder) (older : List Requested) (permissions : List Permission) (here peer : SocketAddr) (connection number made last : ℕ) (head : List ℕ) (events : List TurnEvent) (k : ClientState)
    (w : HasSentBind h older permissions here peer connection number made last head events k.core) (apart : here ≢ h.started.here)
    {T : Type 0} (items : T → List ℕ) (stream : Stream) (occurs : k.control ≡ Open stream) (came : Transmit T) (over : IsFromServerTo h.started here came) (now : ℕ) (answer : TurnRecvRet T) (k2 : ClientState) (some : items came.bytes ≢ [])
    (f : IsFedOn h older permissions here peer connection number made last head events k w apart items stream occurs came over now answer k2 some) where
  module _ (message more : List ℕ) (is : refusal message ≡ None) (parts : head ++ items came.bytes ≡ message ++ more) where
    -- A success response, with what follows it.
    pub socket_bound : IsSuccessOf h connection_bind_method number message → IsBound h older permissions here peer connection last (alive more) (events ++ TcpConnected peer ∷ []) k2.core × (k2.control ≡ k.control)
    socket_bound success =
        let x = processed_first h older permissions here peer connection number made last head events k w apart items stream occurs came over now answer k2 some message more is parts f in
        let b = bound_processed h older permissions here peer connection number made last [] events (keeping h older permissions here peer connection number made last head events k w apart [])
        (stored_so h older permissions here peer connection number made last head events k w apart []) message success now x.between x.processed in
        let rest = stopped here now (alive more) x.between f.left f.middle (bound_stops h older permissions here peer connection last (alive []) (events ++ TcpConnected peer ∷ []) x.between b) x.following in (
          subst (λ (y : Protocol). IsBound h older permissions here peer connection last (alive more) (events ++ TcpConnected peer ∷ []) y)
              (sym (f.after ∙ (ap (λ (s : Stream). with_stored here s f.middle) rest.0 ∙ ap (with_stored here (alive more)) rest.1)))
              (bound_stored h older permissions here peer connection last (alive []) (alive more) (events ++ TcpConnected peer ∷ []) x.between b),
          f.stays,
        )

    -- A challenge, with nothing after it.
    module _ (reported : ChallengeFields) (challenged : IsChallengeOf reported connection_bind_method number message) (some_choice : IntegrityAlgorithm) (can : CanAnswer h reported some_choice) (none : more ≡ [])
        (numbered : AreNumbered) (stay_short : StayShort) (stay_read : StayRead) where
      pub record IsRequestedOver : Type 0 where
        pub choice : IntegrityAlgorithm
        pub answerable : CanAnswer h reported choice
        pub next : ℕ
        pub fits : next < 2 ^ 96
        pub requested_is : HasRequestedBind (challenged_by h reported choice) (bind_request h connection number made ∷ older) permissions here peer connection next now last events k2.core
        pub stays : k2.control ≡ k.control

      requested_stored : (h2 : Holder) (earlier : List Requested) (next : ℕ) (p : Protocol) → HasRequestedBind h2 earlier permissions here peer connection next now last events p → with_stored here (alive []) p ≡ p
      requested_stored h2 earlier next p v = ap (λ (l : List Allocation). record p { allocations = l }) (ap (exchanged here (alive [])) v.allocations ∙ (rw (same_itself here) refl ∙ sym v.allocations))

      pub socket_challenged : IsRequestedOver
      socket_challenged =
          let x = processed_first h older permissions here peer connection number made last head events k w apart items stream occurs came over now answer k2 some message more is parts f in
          let a = challenge_processed h older permissions here peer connection number made last events (keeping h older permissions here peer connection number made last head events k w apart [])
          (stored_so h older permissions here peer connection number made last head events k w apart []) reported message challenged numbered stay_short stay_read now x.between some_choice can x.processed in
          let rest = empty here now x.between f.left f.middle (subst (λ (l : List ℕ). IsFed here now (alive l) x.between f.left f.middle) none x.following) in
          record {
            choice = a.choice;
            answerable = a.answerable;
            next = a.next;
            fits = a.fits;
            requested_is = subst (λ (y : Protocol). HasRequestedBind (challenged_by h reported a.choice) (bind_request h connection number made ∷ older) permissions here peer connection a.next now last events y)
                (sym (f.after ∙ (ap (λ (s : Stream). with_stored here s f.middle) rest.0 ∙ (ap (with_stored here (alive [])) rest.1
                ∙ requested_stored (challenged_by h reported a.choice) (bind_request h connection number made ∷ older) a.next x.between a.requested_is)))) a.requested_is;
            stays = f.stays;
          }
