use Rattle.std.proofs.Common.{◌≡◌, ◌≤◌, ◌++◌, ℕ, List, [], ◌∷◌, Option, Some, None, ap, refl, sym, ◌∙◌, subst}
use Rattle.std.specs.Prelude.{option_to_list}
use Rattle.std.specs.declared.net.socket_addr.SocketAddr.{SocketAddr}
use Rattle.turn_client_proto_messages.specs.Allocation.declared.allocation.Allocation.{Allocation}
use Rattle.turn_client_proto_messages.specs.Judging.{signer_of}
use Rattle.turn_client_proto_messages.specs.StunProtoClient.Client.{Client, Standing}
use Rattle.turn_client_proto_messages.specs.Waiting.{Queued as QueuedMessage}
use Rattle.turn_client_proto_messages.specs.declared.request.TurnRequest.TheVariants.{FirstAllocate}
use Rattle.turn_client_proto_api.specs.declared.event.TurnEvent.{TurnEvent}
use Rattle.turn_client_proto_step_laws.specs.Recv.ClientState.{Protocol}
use Rattle.turn_client_proto_step_laws.specs.Recv.SocketChunks.{raw_waiting}
use Rattle.turn_client_proto_handshake_laws.specs.Coming.{IsPartOf}
use Rattle.turn_client_proto_handshake_laws.specs.Driving.{IsEventTaken, client_end}
use Rattle.turn_client_proto_handshake_laws.specs.Requested.{Requested}
use Rattle.turn_client_proto_handshake_laws.specs.Sent.{first_number, first_request}
use Rattle.turn_client_proto_progress_laws.specs.Holders.{Holder}
use Rattle.turn_client_proto_progress_laws.specs.TcpBinding.{IsTcpBinding}
use Rattle.turn_desk_event.specs.declared.answer.Answer.{Answer}
use Rattle.turn_desk_event.specs.declared.answer.Answer.TheVariants as answer
use Rattle.turn_desk_event.specs.declared.event.ClientCall.{ClientCall}
use Rattle.turn_desk_event.specs.declared.event.ClientCall.TheVariants as call
use Rattle.turn_desk_event.specs.declared.event.Event.TheVariants.{Call}
use Rattle.turn_desk_world_laws.specs.World.Calls.{IsEventReported}
use Rattle.turn_desk_world_laws.specs.World.Model.{World}
use Rattle.turn_desk_world_laws.specs.World.Runs.{IsStep}
use Rattle.turn_desk_progress_laws.specs.Loops.{MayBegin}
use Rattle.turn_desk_progress_laws.specs.Promises.{control_at, over}
use Rattle.turn_desk_progress_laws.specs.Scripts.{IsLook, Plan}
use Rattle.turn_desk_progress_laws.proofs.Clients.{IsLooked, IsLookedOn, Rests, Still, Took, looks, same_desk}
use Rattle.turn_desk_progress_laws.proofs.Coming.{DoWait, none_yet, waiting_rests}
use Rattle.turn_desk_progress_laws.proofs.Indexes.{first_fits}
use Rattle.turn_desk_progress_laws.proofs.Worlds.{event_called}
use Rattle.turn_desk_laws.specs.ConnectionLoops.{Answered, Bind, Bound, Challenged, Clear, Connect, Held, IsUnbound, Known, Method, Off, Permission}
use Rattle.turn_desk_laws.specs.ConnectionLoops.{Permitted, Queued, Reached, Target, Timing, Transmitted, Unpermitted, Waiting, after_look, emptied}
use Rattle.turn_desk_laws.specs.ConnectionStages.{HasHeld, IsAnswered, IsRequestMade, IsChallenged, IsClear, IsHeldFor, IsJoined, IsKnown, IsPermitted, IsQueued, IsStage, IsTransmitted, IsWaiting, earlier_of, holder_at, own_head, queued_at}
use Rattle.turn_desk_laws.proofs.ConnectionTools.{asked_on, moves}
use Rattle.turn_desk_laws.proofs.connections.looks_change_nothing.Goals as goal

-- Nothing is left of no events.
none_left : (event : Option TurnEvent) (left : List TurnEvent) → [] ≡ option_to_list event ++ left → left ≡ []
none_left None left is = sym is
none_left (Some event) left is = absurd (Prim.cc is)

module _ (c : goal.After-connections_are_listed) (plan : Plan) (old w v : World) (target : Target) (address : SocketAddr) (lifetime since : ℕ) (t : Timing) (now : ℕ) (ret : Answer) where
  abbrev Stage : Reached → World → Type 0
  Stage reached x = IsStage plan old target address lifetime since reached t x

  -- ---- a look

  decodes : (h : Holder) (awaited : Option Requested) (older : List Requested) (a : Allocation) (queue : List QueuedMessage) (last : ℕ) (events : List TurnEvent) (p q : Protocol) (event : Option TurnEvent) → IsTcpBinding h awaited older a queue last events p → IsEventTaken p event q
      → (left : List TurnEvent) × (events ≡ option_to_list event ++ left) × IsTcpBinding h awaited older a queue last left q
  decodes h awaited older a queue last events p q event is taken = c.holders_rest.ensures.reported h awaited older a queue last events p q event is taken

  counted : (p q : Protocol) (event : Option TurnEvent) → IsEventTaken p event q → q.resends ≡ p.resends
  counted p q event taken = ap (λ (x : Protocol). x.resends) taken.others

  asked_looks : (method : Method) (queue : List QueuedMessage) (head : List ℕ) (h : Holder) (events : List TurnEvent) (p q : Protocol) (event : Option TurnEvent) (n : ℕ) → IsRequestMade plan target method t queue head h events p n → IsEventTaken p event q
      → (left : List TurnEvent) × IsRequestMade plan target method t queue head h left q n
  asked_looks method queue head h events p q event n is taken =
      let d = decodes h _ (earlier_of method is.older) _ queue t.sent events p q event is.is taken in
      (d.0, asked_on plan target method t queue queue head head h events d.0 p q n is (counted p q event taken) d.2)

  module _ (what : ClientCall) (look : IsLook what) (step : IsStep (Call what now) w ret v) where
    looked : (head : List ℕ) (Is : Holder → List TurnEvent → Protocol → Type 0) → IsHeldFor plan old target address lifetime since head Is w
        → ((h : Holder) (events : List TurnEvent) (p q : Protocol) (event : Option TurnEvent) → Is h events p → IsEventTaken p event q → (left : List TurnEvent) × Is h left q) → IsHeldFor plan old target address lifetime since head Is v
    looked head Is s took = by l.core l.looked l.there
      where
        l : IsLookedOn (control_at plan.client.transport head) s.client.core ret w v
        l = looks (control_at plan.client.transport head) w v s.client.core what now ret s.client.there look step

        by : (q : Protocol) → IsLooked s.client.core ret q → v.client ≡ Some (over (control_at plan.client.transport head) q) → IsHeldFor plan old target address lifetime since head Is v
        by q (Took event taken reported) there =
            let k = took (holder_at plan address lifetime since s.auth s.standing) s.events s.client.core q event s.client.is taken in
            moves plan old w v target address lifetime since head head Is Is s (same_desk w v l.of) q there k.0 k.1
        by q (Still same reported) there =
            moves plan old w v target address lifetime since head head Is Is s (same_desk w v l.of) q there s.events
            (subst (λ (x : Protocol). Is (holder_at plan address lifetime since s.auth s.standing) s.events x) (sym same) s.client.is)

    known_looks : Stage Known w → Stage Known v
    known_looks s = looked [] (λ h events p. IsKnown target t h events p) s (λ h events p q event is taken. (let d = decodes h None [] _ [] t.sent events p q event is taken in (d.0, d.2)))

  -- Once the connection ID is known, it is seen whether an event is queued.
  emptied_by : (s : Stage Known w) → (r : Answer) (core : Protocol) → v.client ≡ Some (over (control_at plan.client.transport []) core) → v.desk ≡ w.desk → IsEventReported r s.client.core core → Stage (emptied call.PollEvent r) v
  emptied_by s (answer.Event event) core there same is =
      let d = decodes (holder_at plan address lifetime since s.auth s.standing) None [] _ [] t.sent s.events s.client.core core (Some event) s.client.is (record { first = is.0; none = tt; others = is.1 }) in
      moves plan old w v target address lifetime since [] [] (λ h events p. IsKnown target t h events p) (λ h events p. IsKnown target t h events p) s same core there d.0 d.2
  emptied_by s answer.Nothing core there same is =
      moves plan old w v target address lifetime since [] [] (λ h events p. IsKnown target t h events p) (λ h events p. IsClear target t h events p) s same core there s.events
      (record {
        none = sym s.client.is.events_are ∙ is.0;
        is = subst (λ (x : Protocol). IsKnown target t (holder_at plan address lifetime since s.auth s.standing) s.events x) (sym is.1) s.client.is;
      })
  emptied_by s _ core there same is = absurd is

  known_at : now ≤ client_end → (what : ClientCall) → IsLook what → IsStep (Call what now) w ret v → Stage Known w → Stage (emptied what ret) v
  known_at in_range call.PollEvent look step s =
      let on = event_called (control_at plan.client.transport []) w v s.client.core now ret s.client.there in_range step in
      emptied_by s ret on.core on.there on.desk on.reported
  known_at in_range (call.HavePermission transport ip) look step s = known_looks (call.HavePermission transport ip) look step s
  known_at in_range (call.Permissions transport relayed) look step s = known_looks (call.Permissions transport relayed) look step s
  known_at in_range call.Channels look step s = known_looks call.Channels look step s
  known_at in_range call.Connections look step s = known_looks call.Connections look step s
  known_at in_range call.RelayedAddresses look step s = known_looks call.RelayedAddresses look step s
  known_at in_range _ look step s = absurd look

  looks_at : now ≤ client_end → (what : ClientCall) → IsLook what → IsStep (Call what now) w ret v → (reached : Reached) → Stage reached w → Stage (after_look what reached ret) v
  looks_at in_range what look step Held s = looked what look step [] (λ h events p. HasHeld t h events p) s (λ h events p q event is taken. (
      let d = decodes h None [] _ [] t.sent events p q event is.is taken in (d.0, record { is = d.2; counts = counted p q event taken ∙ is.counts })))
  looks_at in_range what look step Unpermitted s = s
  looks_at in_range what look step (Queued method) s = looked what look step [] (λ h events p. IsQueued plan target method t h events p) s (λ h events p q event is taken. (
      let d = asked_looks method (queued_at plan target method h t is.transaction_id) [] h events p q event is.transaction_id is.request_made taken in (d.0, record { transaction_id = is.transaction_id; request_made = d.1 })))
  looks_at in_range what look step (Transmitted method request) s = looked what look step [] (λ h events p. IsTransmitted plan target method t request [] h events p) s (λ h events p q event is taken. (
      let d = asked_looks method [] [] h events p q event is.transaction_id is.request_made taken in (d.0, record { transaction_id = is.transaction_id; request_made = d.1; request_is = is.request_is })))
  looks_at in_range what look step (Answered method request reply head) s = looked what look step (own_head method head) (λ h events p. IsAnswered plan target method t request reply head h events p) s (λ h events p q event is taken. (
      let d = asked_looks method [] head h events p q event is.transmitted.transaction_id is.transmitted.request_made taken in (
        d.0,
        record {
          transmitted = record { transaction_id = is.transmitted.transaction_id; request_made = d.1; request_is = is.transmitted.request_is };
          message = is.message;
          success = is.success;
          decodes = is.decodes;
          part = is.part;
        },
      )))
  looks_at in_range what look step (Challenged method request reply head) s = looked what look step (own_head method head) (λ h events p. IsChallenged plan old target method t request reply head h events p) s (λ h events p q event is taken. (
      let d = asked_looks method [] head h events p q event is.transmitted.transaction_id is.transmitted.request_made taken in (
        d.0,
        record {
          transmitted = record { transaction_id = is.transmitted.transaction_id; request_made = d.1; request_is = is.transmitted.request_is };
          message = is.message;
          reported = is.reported;
          challenge = is.challenge;
          of = is.of;
          choice = is.choice;
          can = is.can;
          may = is.may;
          part = is.part;
        },
      )))
  looks_at in_range what look step Permitted s = looked what look step [] (λ h events p. IsPermitted target t h events p) s (λ h events p q event is taken. (
      let d = decodes h None [] _ [] t.sent events p q event is.is taken in (d.0, record { is = d.2; counts = counted p q event taken ∙ is.counts })))
  looks_at in_range what look step Known s = known_at in_range what look step s
  looks_at in_range what look step Clear s = looked what look step [] (λ h events p. IsClear target t h events p) s (λ h events p q event is taken. (
      let d = decodes h None [] _ [] t.sent events p q event is.is taken in (d.0, record { none = none_left event d.0 (sym is.none ∙ d.1); is = d.2 })))
  looks_at in_range what look step (Waiting connection socket peer) s = looked what look step [] (λ h events p. IsWaiting plan target t connection socket peer h events p) s (λ h events p q event is taken. (
      let d = decodes h None [] _ [] t.sent events p q event is.is taken in (d.0, record { socket_is = is.socket_is; is = d.2 })))
  looks_at in_range what look step (Bound more) s = looked what look step [] (λ h events p. IsJoined target t more h events p) s (λ h events p q event is taken. (
      let d = decodes h None is.older _ [] t.sent events p q event is.is taken in (d.0, record { older = is.older; since_oldest = is.since_oldest; is = d.2 })))
  looks_at in_range what look step Off s = absurd s

  -- ---- what has come is requested

  module _ (may : MayBegin plan old) (step : IsStep (Call call.PollRecv now) w ret v) where
    -- Nothing of a message has come: here of the first request.
    started : IsPartOf [] (first_request plan.client)
    started = none_yet (first_request plan.client)
        (c.proof_requests_are_read.ensures.message (signer_of plan.client.config) (FirstAllocate plan.client.config.transport plan.client.config.families plan.client.config.options) (first_number plan.client)
        (c.new_clients_ask.ensures.short plan.client may.room) may.room.1 (first_fits plan.client))

    wait : DoWait
    wait = record { waiting = c.messages_reach_clients.ensures.waiting; none_waits = c.messages_reach_clients.ensures.none_waits }

    rested : (reached : Reached) → Stage reached w → Rests ret w v → Stage reached v
    rested reached s r = subst (λ (x : World). Stage reached x) (sym r.same) s

    gives_none : (head message : List ℕ) → IsPartOf head message → (p : Protocol) → w.client ≡ Some (over (control_at plan.client.transport head) p) → raw_waiting p ≡ None → Rests ret w v
    gives_none head message part p at none = waiting_rests wait plan.client w v p head message now ret at none part step

    asked_none : (method : Method) (queue : List QueuedMessage) (head : List ℕ) (h : Holder) (events : List TurnEvent) (p : Protocol) (n : ℕ) → IsRequestMade plan target method t queue head h events p n → raw_waiting p ≡ None
    asked_none Permission queue head h events p n is = c.connections_are_listed.ensures.none_waits h _ [] [] _ [] [] queue t.sent events p is.is
    asked_none Connect queue head h events p n is = c.connections_are_listed.ensures.none_waits h _ [] _ [] _ [] queue t.sent events p is.is
    asked_none Bind queue head h events p n is = c.connections_are_listed.ensures.joining_none h _ is.older _ target.local target.peer target.number n t.made t.sent head queue events p is.is

    -- How much of a message has come over the client's own connection.
    own_part : (method : Method) (head reply : List ℕ) → IsPartOf head reply → (p : Protocol) → w.client ≡ Some (over (control_at plan.client.transport (own_head method head)) p) → raw_waiting p ≡ None → Rests ret w v
    own_part Permission head reply part p at none = gives_none head reply part p at none
    own_part Connect head reply part p at none = gives_none head reply part p at none
    own_part Bind head reply part p at none = gives_none [] _ started p at none

    receives_at : (reached : Reached) → IsUnbound reached → Stage reached w → Stage reached v
    receives_at Held at s = rested Held s (gives_none [] _ started s.client.core s.client.there (c.connections_are_listed.ensures.none_waits _ _ _ _ _ _ _ _ _ _ _ s.client.is.is))
    receives_at Unpermitted at s = s
    receives_at (Queued method) at s =
        let h = holder_at plan address lifetime since s.auth s.standing in
        rested (Queued method) s (gives_none [] _ started s.client.core s.client.there (asked_none method (queued_at plan target method h t s.client.is.transaction_id) [] h s.events s.client.core s.client.is.transaction_id s.client.is.request_made))
    receives_at (Transmitted method request) at s =
        let h = holder_at plan address lifetime since s.auth s.standing in
        rested (Transmitted method request) s (gives_none [] _ started s.client.core s.client.there (asked_none method [] [] h s.events s.client.core s.client.is.transaction_id s.client.is.request_made))
    receives_at (Answered method request reply head) at s =
        let h = holder_at plan address lifetime since s.auth s.standing in
        rested (Answered method request reply head) s (own_part method head reply s.client.is.part s.client.core s.client.there (asked_none method [] head h s.events s.client.core s.client.is.transmitted.transaction_id s.client.is.transmitted.request_made))
    receives_at (Challenged method request reply head) at s =
        let h = holder_at plan address lifetime since s.auth s.standing in
        rested (Challenged method request reply head) s (own_part method head reply s.client.is.part s.client.core s.client.there (asked_none method [] head h s.events s.client.core s.client.is.transmitted.transaction_id s.client.is.transmitted.request_made))
    receives_at Permitted at s = rested Permitted s (gives_none [] _ started s.client.core s.client.there (c.connections_are_listed.ensures.none_waits _ _ _ _ _ _ _ _ _ _ _ s.client.is.is))
    receives_at Known at s = rested Known s (gives_none [] _ started s.client.core s.client.there (c.connections_are_listed.ensures.none_waits _ _ _ _ _ _ _ _ _ _ _ s.client.is))
    receives_at Clear at s = rested Clear s (gives_none [] _ started s.client.core s.client.there (c.connections_are_listed.ensures.none_waits _ _ _ _ _ _ _ _ _ _ _ s.client.is.is))
    receives_at (Waiting connection socket peer) at s =
        rested (Waiting connection socket peer) s (gives_none [] _ started s.client.core s.client.there (c.connections_are_listed.ensures.none_waits _ _ _ _ _ _ _ _ _ _ _ s.client.is.is))
    receives_at (Bound more) at s = absurd at
    receives_at Off at s = absurd s

pub returns-clause-looks : goal.returns-clause-looks
returns-clause-looks c = λ plan old w v target address lifetime since t reached what now ret in_range look s step. looks_at c plan old w v target address lifetime since t now ret in_range what look step reached s

pub returns-clause-receives : goal.returns-clause-receives
returns-clause-receives c = λ plan old w v target address lifetime since t reached now ret may at s step. receives_at c plan old w v target address lifetime since t now ret may step reached at s
