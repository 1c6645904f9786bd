use Rattle.std.proofs.Common.{◌≡◌, ◌≢◌, ◌++◌, ℕ, List, [], Option, Some, None, sym, ◌∙◌, subst}
use Rattle.std.specs.Prelude.{option_to_list}
use Rattle.std.specs.declared.net.socket_addr.SocketAddr.{SocketAddr}
use Rattle.turn_client_proto_messages.specs.Allocation.declared.allocation.Allocation.{Allocation}
use Rattle.turn_client_proto_api.specs.declared.event.TurnEvent.{TurnEvent}
use Rattle.turn_client_proto_handshake_laws.specs.Requested.{Requested as Request}
use Rattle.turn_client_proto_handshake_laws.specs.Coming.{IsPartOf}
use Rattle.turn_client_proto_handshake_laws.specs.Driving.{IsEventTaken}
use Rattle.turn_client_proto_progress_laws.specs.Holders.{Holder}
use Rattle.turn_client_proto_progress_laws.specs.TcpBinding.{HasRequestedConnect, HasLearned, IsHolding, IsTcpBinding}
use Rattle.turn_client_proto_messages.specs.Judging.{signer_of}
use Rattle.turn_client_proto_messages.specs.Waiting.{Queued}
use Rattle.turn_client_proto_messages.specs.declared.request.TurnRequest.TheVariants.{FirstAllocate}
use Rattle.turn_client_proto_handshake_laws.specs.Sent.{first_number, first_request}
use Rattle.turn_client_proto_step_laws.specs.Recv.SocketChunks.{raw_waiting}
use Rattle.turn_client_proto_step_laws.specs.Recv.ClientState.{Protocol}
use Rattle.turn_desk_world_laws.specs.World.Model.{World}
use Rattle.turn_desk_world_laws.specs.World.Runs.{IsStep}
use Rattle.turn_desk_event.specs.declared.answer.Answer.{Answer}
use Rattle.turn_desk_event.specs.declared.event.ClientCall.{ClientCall}
use Rattle.turn_desk_event.specs.declared.event.ClientCall.TheVariants as call
use Rattle.turn_desk_event.specs.declared.event.Event.TheVariants.{Call}
use Rattle.turn_desk_progress_laws.specs.Promises.{IsFresh, control_at, over}
use Rattle.turn_desk_progress_laws.specs.Scripts.{IsLook, Plan}
use Rattle.turn_desk_progress_laws.proofs.Clients.{IsLooked, IsLookedOn, Rests, Still, Took, looks, same_desk}
use Rattle.turn_desk_progress_laws.proofs.Coming.{DoWait, none_yet, waiting_rests}
use Rattle.turn_desk_progress_laws.proofs.Indexes.{first_fits}
use Rattle.turn_desk_progress_laws.specs.Joining.{IsAnswered, IsAskTransmitted, IsRequested, IsBinding, IsTransmittedFor, IsEnd, IsHeldBy, IsOpened, IsPermitted, IsPermitting, IsReported, IsWaitingFor, OfNumber, IsAtStep, holder_in, permitted_in}
use Rattle.turn_desk_progress_laws.specs.Links.{AskTransmitted, Requested, Answered, Binding, Bound, Called, Clear, Transmitted, Eventful, Held, IsUnbound, Known, Link, Off, Opened, Permitted, Permitting, Reached, Reported, Unpermitted, Waiting, seen}
use Rattle.turn_desk_progress_laws.proofs.Worlds.{moves}
use Rattle.turn_desk_progress_laws.proofs.connections.links_stand_still.Goals as goal

-- Nothing is left of no events.
none_left : (event : Option TurnEvent) (left : List TurnEvent) → [] ≡ option_to_list event ++ left → left ≡ []
none_left None left is = sym is
none_left (Some event) left is = absurd (Prim.cc is)

module _ (c : goal.After-connections_are_listed) (plan : Plan) (old w v : World) (address : SocketAddr) (lifetime : ℕ) (link : Link) (ret : Answer) (now : ℕ) where
  -- ---- a look

  -- An event is polled.
  decodes : (h : Holder) (awaited : Option Request) (older : List Request) (a : Allocation) (queue : List Queued) (last : ℕ) (events : List TurnEvent) (p q : Protocol) (event : Option TurnEvent) → IsTcpBinding h awaited older a queue last events p → IsEventTaken p event q
      → (left : List TurnEvent) × (events ≡ option_to_list event ++ left) × IsTcpBinding h awaited older a queue last left q
  decodes h awaited older a queue last events p q event is taken = c.holders_rest.ensures.reported h awaited older a queue last events p q event is taken

  module _ (what : ClientCall) (look : IsLook what) (step : IsStep (Call what now) w ret v) where
    looked : (head : List ℕ) (Was Is : Holder → List TurnEvent → Protocol → Type 0) → IsHeldBy plan old address lifetime link head Was w
        → ((h : Holder) (events : List TurnEvent) (p q : Protocol) (event : Option TurnEvent) → Was h events p → IsEventTaken p event q → (left : List TurnEvent) × Is h left q)
        → ((h : Holder) (events : List TurnEvent) (p : Protocol) → Was h events p → Is h events p) → IsHeldBy plan old address lifetime link head Is v
    looked head Was Is s took still = by l.core l.looked l.there
      where
        l : IsLookedOn (control_at plan.client.transport head) s.client.core ret w v
        l = looks (control_at plan.client.transport head) w v s.client.core what now ret s.client.there look step

        by : (q : Protocol) → IsLooked s.client.core ret q → v.client ≡ Some (over (control_at plan.client.transport head) q) → IsHeldBy plan old address lifetime link head Is v
        by q (Took event taken reported) there =
            let t = took (holder_in plan address lifetime s.auth s.standing) s.events s.client.core q event s.client.is taken in
            moves plan old w v address lifetime link head head Was Is s (same_desk w v l.of) q there t.0 t.1
        by q (Still same reported) there =
            moves plan old w v address lifetime link head head Was Is s (same_desk w v l.of) q there s.events
            (still (holder_in plan address lifetime s.auth s.standing) s.events q (subst (λ (x : Protocol). Was (holder_in plan address lifetime s.auth s.standing) s.events x) (sym same) s.client.is))

    -- If what is held stays unchanged.
    stored : (head : List ℕ) (Is : Holder → List TurnEvent → Protocol → Type 0) → IsHeldBy plan old address lifetime link head Is w
        → ((h : Holder) (events : List TurnEvent) (p q : Protocol) (event : Option TurnEvent) → Is h events p → IsEventTaken p event q → (left : List TurnEvent) × Is h left q) → IsHeldBy plan old address lifetime link head Is v
    stored head Is s took = looked head Is Is s took (λ h events p is. is)

    looks_at : (progress : Reached) → IsAtStep plan old address lifetime link progress w → IsAtStep plan old address lifetime link (seen progress) v
    looks_at Held s = stored [] (λ h events p. IsHolding h plan.second events p) s (λ h events p q event is taken. (let t = decodes h None [] _ [] plan.second events p q event is taken in (t.0, t.2)))
    looks_at Requested s = stored [] (λ h events p. OfNumber (λ number. IsRequested link plan.second h events p number)) s (λ h events p q event is taken. (
        let t = decodes h _ [] _ _ plan.second events p q event is.is.is taken in (t.0, record { number = is.number; fits = is.fits; is = record { lawful = is.is.lawful; could = is.is.could; is = t.2 } })))
    looks_at Unpermitted s = s
    looks_at (AskTransmitted request) s = stored [] (λ h events p. OfNumber (λ number. IsAskTransmitted link request h events p number)) s (λ h events p q event is taken. (
        let t = decodes h _ [] _ [] link.granted events p q event is.is.is taken in
        (t.0, record { number = is.number; fits = is.fits; is = record { lawful = is.is.lawful; could = is.is.could; request_is = is.is.request_is; is = t.2 } })))
    looks_at (Permitting request reply head) s = stored head (λ h events p. OfNumber (λ number. IsPermitting link request reply head h events p number)) s (λ h events p q event is taken. (
        let t = decodes h _ [] _ [] link.granted events p q event is.is.transmitted.is taken in (
          t.0,
          record {
            number = is.number;
            fits = is.fits;
            is = record {
              transmitted = record { lawful = is.is.transmitted.lawful; could = is.is.transmitted.could; request_is = is.is.transmitted.request_is; is = t.2 };
              message = is.is.message;
              success = is.is.success;
              part = is.is.part;
            };
          },
        )))
    looks_at Permitted s = stored [] (λ h events p. IsPermitted link h events p) s (λ h events p q event is taken. (
        let t = decodes h None [] _ [] link.granted events p q event is.is taken in (t.0, record { could = is.could; is = t.2 })))
    looks_at Called s = stored [] (λ h events p. OfNumber (λ number. HasRequestedConnect h (permitted_in link) link.peer number link.made link.granted events p)) s (λ h events p q event is taken. (
        let t = decodes h _ [] _ _ link.granted events p q event is.is taken in (t.0, record { number = is.number; fits = is.fits; is = t.2 })))
    looks_at (Transmitted request) s = stored [] (λ h events p. OfNumber (λ number. IsTransmittedFor link request h events p number)) s (λ h events p q event is taken. (
        let t = decodes h _ [] _ [] link.first events p q event is.is.is taken in (t.0, record { number = is.number; fits = is.fits; is = record { request_is = is.is.request_is; is = t.2 } })))
    looks_at (Reported request reply head) s = stored head (λ h events p. OfNumber (λ number. IsReported link request reply head h events p number)) s (λ h events p q event is taken. (
        let t = decodes h _ [] _ [] link.first events p q event is.is.transmitted.is taken in (
          t.0,
          record {
            number = is.number;
            fits = is.fits;
            is = record {
              transmitted = record { request_is = is.is.transmitted.request_is; is = t.2 };
              message = is.is.message;
              success = is.is.success;
              reported = is.is.reported;
              part = is.is.part;
            };
          },
        )))
    looks_at Known s = stored [] (λ h events p. HasLearned h (permitted_in link) link.number link.peer link.first events p) s (λ h events p q event is taken. (
        let t = decodes h None [] _ [] link.first events p q event is taken in (t.0, t.2)))
    looks_at Clear s = stored [] (λ h events p. (events ≡ []) × HasLearned h (permitted_in link) link.number link.peer link.first events p) s (λ h events p q event is taken. (
        let t = decodes h None [] _ [] link.first events p q event is.1 taken in (t.0, (none_left event t.0 (sym is.0 ∙ t.1), t.2))))
    looks_at Eventful s = looked [] (λ h events p. (events ≢ []) × HasLearned h (permitted_in link) link.number link.peer link.first events p)
        (λ h events p. HasLearned h (permitted_in link) link.number link.peer link.first events p) s
        (λ h events p q event is taken. (let t = decodes h None [] _ [] link.first events p q event is.1 taken in (t.0, t.2))) (λ h events p is. is.1)
    looks_at (Waiting number socket peer) s = stored [] (λ h events p. IsWaitingFor link number socket peer h events p) s (λ h events p q event is taken. (
        let t = decodes h None [] _ [] link.first events p q event is.is taken in (t.0, record { number_is = is.number_is; socket_is = is.socket_is; peer_is = is.peer_is; is = t.2 })))
    looks_at (Opened last) s = stored [] (λ h events p. OfNumber (λ number. IsOpened link last h events p number)) s (λ h events p q event is taken. (
        let t = decodes h _ is.is.older _ _ last events p q event is.is.is taken in
        (t.0, record { number = is.number; fits = is.fits; is = record { older = is.is.older; made = is.is.made; apart = is.is.apart; lawful = is.is.lawful; is = t.2 } })))
    looks_at (Binding sent request) s = stored [] (λ h events p. OfNumber (λ number. IsBinding link sent request [] h events p number)) s (λ h events p q event is taken. (
        let t = decodes h _ is.is.older _ [] sent events p q event is.is.is taken in
        (t.0, record { number = is.number; fits = is.fits; is = record { older = is.is.older; made = is.is.made; apart = is.is.apart; lawful = is.is.lawful; request_is = is.is.request_is; is = t.2 } })))
    looks_at (Answered sent request reply head) s = stored [] (λ h events p. OfNumber (λ number. IsAnswered link sent request reply head h events p number)) s (λ h events p q event is taken. (
        let b = is.is.binding in
        let t = decodes h _ b.older _ [] sent events p q event b.is taken in (
          t.0,
          record {
            number = is.number;
            fits = is.fits;
            is = record {
              binding = record { older = b.older; made = b.made; apart = b.apart; lawful = b.lawful; request_is = b.request_is; is = t.2 };
              message = is.is.message;
              success = is.is.success;
              part = is.is.part;
            };
          },
        )))
    looks_at (Bound more) s = stored [] (λ h events p. IsEnd link more h events p) s (λ h events p q event is taken. (
        let t = decodes h None is.older _ [] is.sent events p q event is.is taken in (t.0, record { older = is.older; sent = is.sent; is = t.2 })))
    looks_at Off s = absurd s

  -- ---- what has come is requested

  module _ (fresh : IsFresh plan old) (step : IsStep (Call call.PollRecv now) w ret v) where
    -- Nothing of a message has come: here of the first request.
    started : IsPartOf [] (first_request plan.client)
    started = none_yet (first_request plan.client)
        (c.proof_requests_are_read.ensures.message (signer_of plan.client.config) (FirstAllocate plan.client.config.transport plan.client.config.families plan.client.config.options) (first_number plan.client)
        (c.new_clients_ask.ensures.short plan.client fresh.room) fresh.room.1 (first_fits plan.client))

    wait : DoWait
    wait = record { waiting = c.messages_reach_clients.ensures.waiting; none_waits = c.messages_reach_clients.ensures.none_waits }

    rested : (progress : Reached) → IsAtStep plan old address lifetime link progress w → Rests ret w v → IsAtStep plan old address lifetime link progress v
    rested progress s r = subst (λ (x : World). IsAtStep plan old address lifetime link progress x) (sym r.same) s

    gives_none : (head message : List ℕ) → IsPartOf head message → (p : Protocol) → w.client ≡ Some (over (control_at plan.client.transport head) p) → raw_waiting p ≡ None → Rests ret w v
    gives_none head message part p at none = waiting_rests wait plan.client w v p head message now ret at none part step

    receives_at : (progress : Reached) → IsUnbound progress → IsAtStep plan old address lifetime link progress w → IsAtStep plan old address lifetime link progress v
    receives_at Held at s = rested Held s (gives_none [] _ started s.client.core s.client.there (c.connections_are_listed.ensures.none_waits _ _ _ _ _ _ _ _ _ _ _ s.client.is))
    receives_at Requested at s = rested Requested s (gives_none [] _ started s.client.core s.client.there (c.connections_are_listed.ensures.none_waits _ _ _ _ _ _ _ _ _ _ _ s.client.is.is.is))
    receives_at Unpermitted at s = s
    receives_at (AskTransmitted request) at s = rested (AskTransmitted request) s (gives_none [] _ started s.client.core s.client.there (c.connections_are_listed.ensures.none_waits _ _ _ _ _ _ _ _ _ _ _ s.client.is.is.is))
    receives_at (Permitting request reply head) at s =
        rested (Permitting request reply head) s (gives_none head reply s.client.is.is.part s.client.core s.client.there (c.connections_are_listed.ensures.none_waits _ _ _ _ _ _ _ _ _ _ _ s.client.is.is.transmitted.is))
    receives_at Permitted at s = rested Permitted s (gives_none [] _ started s.client.core s.client.there (c.connections_are_listed.ensures.none_waits _ _ _ _ _ _ _ _ _ _ _ s.client.is.is))
    receives_at Called at s = rested Called s (gives_none [] _ started s.client.core s.client.there (c.connections_are_listed.ensures.none_waits _ _ _ _ _ _ _ _ _ _ _ s.client.is.is))
    receives_at (Transmitted request) at s = rested (Transmitted request) s (gives_none [] _ started s.client.core s.client.there (c.connections_are_listed.ensures.none_waits _ _ _ _ _ _ _ _ _ _ _ s.client.is.is.is))
    receives_at (Reported request reply head) at s =
        rested (Reported request reply head) s (gives_none head reply s.client.is.is.part s.client.core s.client.there (c.connections_are_listed.ensures.none_waits _ _ _ _ _ _ _ _ _ _ _ s.client.is.is.transmitted.is))
    receives_at Known at s = rested Known s (gives_none [] _ started s.client.core s.client.there (c.connections_are_listed.ensures.none_waits _ _ _ _ _ _ _ _ _ _ _ s.client.is))
    receives_at Clear at s = rested Clear s (gives_none [] _ started s.client.core s.client.there (c.connections_are_listed.ensures.none_waits _ _ _ _ _ _ _ _ _ _ _ s.client.is.1))
    receives_at Eventful at s = rested Eventful s (gives_none [] _ started s.client.core s.client.there (c.connections_are_listed.ensures.none_waits _ _ _ _ _ _ _ _ _ _ _ s.client.is.1))
    receives_at (Waiting number socket peer) at s =
        rested (Waiting number socket peer) s (gives_none [] _ started s.client.core s.client.there (c.connections_are_listed.ensures.none_waits _ _ _ _ _ _ _ _ _ _ _ s.client.is.is))
    receives_at (Opened last) at s = rested (Opened last) s (gives_none [] _ started s.client.core s.client.there (c.connections_are_listed.ensures.joining_none _ _ _ _ _ _ _ _ _ _ _ _ _ _ s.client.is.is.is))
    receives_at (Binding sent request) at s =
        rested (Binding sent request) s (gives_none [] _ started s.client.core s.client.there (c.connections_are_listed.ensures.joining_none _ _ _ _ _ _ _ _ _ _ _ _ _ _ s.client.is.is.is))
    receives_at (Answered sent request reply head) at s =
        rested (Answered sent request reply head) s (gives_none [] _ started s.client.core s.client.there (c.connections_are_listed.ensures.joining_none _ _ _ _ _ _ _ _ _ _ _ _ _ _ s.client.is.is.binding.is))
    receives_at (Bound more) at s = absurd at
    receives_at Off at s = absurd s

pub returns-clause-looks : goal.returns-clause-looks
returns-clause-looks c = λ plan old w v address lifetime link progress what now ret s look step. looks_at c plan old w v address lifetime link ret now what look step progress s

pub returns-clause-receives : goal.returns-clause-receives
returns-clause-receives c = λ plan old w v address lifetime link progress now ret fresh s at step. receives_at c plan old w v address lifetime link ret now fresh step progress at s
