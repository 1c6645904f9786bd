use Rattle.std.proofs.Common.{◌≡◌, ◌≢◌, ◌≤◌, ℕ, Bool, List, [], ◌∷◌, Some, None, ap, refl, sym, ◌∙◌, subst, inl, inr}
use Rattle.std.specs.Prelude.{Ok, Err, if◌then◌else◌}
use Rattle.std.specs.declared.net.socket_addr.SocketAddr.{SocketAddr}
use Rattle.turn_client_proto_api.specs.declared.answer.Socket5Tuple.{Socket5Tuple}
use Rattle.turn_client_proto_api.specs.declared.answer.TurnPollRet.{TurnPollRet}
use Rattle.turn_client_proto_api.specs.declared.answer.TurnPollRet.TheVariants as poll
use Rattle.turn_client_proto_api.specs.declared.event.TurnEvent.{TurnEvent}
use Rattle.turn_client_proto_handshake_laws.specs.Driving.{client_end}
use Rattle.turn_client_proto_progress_laws.specs.Holders.{Holder}
use Rattle.turn_client_proto_progress_laws.specs.TcpBinding.{AwaitsSocket, HasLearned, own_tuple_of}
use Rattle.turn_client_proto_step_laws.specs.Timers.Polling.{IsPolled}
use Rattle.turn_client_proto_step_laws.specs.Recv.Sockets.{IsSocketAnswered}
use Rattle.turn_client_proto_progress_laws.proofs.TcpBinding.Same.{apart_address}
use Rattle.turn_desk_world_laws.specs.TurnClientProto.SocketsReported.{replaced}
use Rattle.turn_client_proto_messages.specs.Allocation.Same.{is_same_address}
use Rattle.turn_desk_world_laws.specs.World.Calls.{IsEventReported, IsPolledAs, IsSocketTaken, own_tuple}
use Rattle.turn_client_proto_step_laws.specs.Recv.ClientState.{ClientState, Protocol}
use Rattle.turn_desk_world_laws.specs.World.Model.{World}
use Rattle.turn_desk_world_laws.specs.World.Runs.{IsStep}
use Rattle.turn_desk_event.specs.declared.answer.Answer.{Answer}
use Rattle.turn_desk_event.specs.declared.answer.Answer.TheVariants as answer
use Rattle.turn_desk_event.specs.declared.answer.Refusal.TheVariants.{TcpAllocate as SocketRefused}
use Rattle.turn_desk_event.specs.declared.event.ClientCall.TheVariants as call
use Rattle.turn_desk_event.specs.declared.event.Event.TheVariants.{Call}
use Rattle.turn_desk_progress_laws.specs.Promises.{control_at, over}
use Rattle.turn_desk_progress_laws.specs.Scripts.{Plan}
use Rattle.turn_desk_progress_laws.proofs.Clients.{stays}
use Rattle.turn_desk_progress_laws.specs.Joining.{IsOpened, IsWaitingFor, OfNumber, IsAtStep, holder_in, permitted_in}
use Rattle.turn_desk_progress_laws.specs.Links.{Clear, Eventful, IsKnowing, Known, Link, Off, Opened, Reached, Waiting, called, emptied, polled}
use Rattle.turn_desk_progress_laws.proofs.Worlds.{event_called, moves, poll_called, socket_called}
use Rattle.turn_desk_progress_laws.proofs.connections.sockets_are_linked.Goals as goal

module _ (c : goal.After-connections_are_joined) (plan : Plan) (old w v : World) (address : SocketAddr) (lifetime : ℕ) (link : Link) where
  -- As far as is known, events may be queued.
  knows : (progress : Reached) → IsKnowing progress → IsAtStep plan old address lifetime link progress w → IsAtStep plan old address lifetime link Known w
  knows progress (inl is) s = subst (λ (x : Reached). IsAtStep plan old address lifetime link x w) is s
  knows progress (inr is) s =
      let e = subst (λ (x : Reached). IsAtStep plan old address lifetime link x w) is s in
      record { auth = e.auth; standing = e.standing; of = e.of; desk = e.desk; events = e.events; client = record { core = e.client.core; there = e.client.there; is = e.client.is.1 } }

  abbrev clears : IsAtStep plan old address lifetime link Clear w → IsAtStep plan old address lifetime link Known w
  clears e = record { auth = e.auth; standing = e.standing; of = e.of; desk = e.desk; events = e.events; client = record { core = e.client.core; there = e.client.there; is = e.client.is.1 } }

  module _ (s : IsAtStep plan old address lifetime link Known w) where
    abbrev h : Holder
    h = holder_in plan address lifetime s.auth s.standing

    abbrev Learned : Holder → List TurnEvent → Protocol → Type 0
    Learned h events p = HasLearned h (permitted_in link) link.number link.peer link.first events p

    -- ---- an event is taken

    emptied_by : (ret : Answer) (core : Protocol) → v.client ≡ Some (over (control_at plan.client.transport []) core) → v.desk ≡ w.desk → IsEventReported ret s.client.core core → IsAtStep plan old address lifetime link (emptied ret) v
    emptied_by (answer.Event event) core there same is =
        let t = c.holders_rest.ensures.reported h None [] _ [] link.first s.events s.client.core core (Some event) s.client.is (record { first = is.0; none = tt; others = is.1 }) in
        moves plan old w v address lifetime link [] [] Learned Learned s same core there t.0 t.2
    emptied_by answer.Nothing core there same is =
        moves plan old w v address lifetime link [] [] Learned (λ h events p. (events ≡ []) × Learned h events p) s same core there s.events
        (sym s.client.is.events_are ∙ is.0, subst (λ (x : Protocol). Learned h s.events x) (sym is.1) s.client.is)
    emptied_by _ core there same is = absurd is

    empties : (now : ℕ) → now ≤ client_end → (ret : Answer) → IsStep (Call call.PollEvent now) w ret v → IsAtStep plan old address lifetime link (emptied ret) v
    empties now early ret step =
        let on = event_called (control_at plan.client.transport []) w v s.client.core now ret s.client.there early step in
        emptied_by ret on.core on.there on.desk on.reported

    -- ---- it is polled while none waits

    module _ (other : Reached) (now : ℕ) (core : Protocol) (there : v.client ≡ Some (over (control_at plan.client.transport []) core)) (same : v.desk ≡ w.desk) where
      asks_one : (r : TurnPollRet) → s.events ≡ [] → IsPolled s.client.core now r core → (r ≡ poll.AllocateTcpSocket link.number (own_tuple_of h) link.peer) × AwaitsSocket h (permitted_in link) link.number link.peer link.first [] core
      asks_one r none is = c.connections_are_requested_for.ensures.polled h (permitted_in link) link.number link.peer link.first s.client.core core now r (subst (λ (l : List TurnEvent). Learned h l s.client.core) none s.client.is) is

      clear_polled : (ret : Answer) → s.events ≡ [] → IsPolledAs ret s.client.core now core → IsAtStep plan old address lifetime link (polled ret other) v
      clear_polled (answer.Wait time) none is = absurd (Prim.cc (asks_one (poll.WaitUntil time) none is).0)
      clear_polled (answer.Socket id socket peer) none is =
          let a = asks_one (poll.AllocateTcpSocket id socket peer) none is in
          moves plan old w v address lifetime link [] [] Learned (λ h events p. IsWaitingFor link id socket peer h events p) s same core there []
          (record { number_is = Prim.cc a.0; socket_is = Prim.cc a.0; peer_is = Prim.cc a.0; is = a.1 })
      clear_polled (answer.Close local remote) none is = absurd (Prim.cc (asks_one (poll.TcpClose local remote) none is).0)
      clear_polled answer.Closed none is = absurd (Prim.cc (asks_one poll.Closed none is).0)
      clear_polled _ none is = absurd is

      -- While an event is queued.
      waits_one : (event : TurnEvent) (others : List TurnEvent) (r : TurnPollRet) → s.events ≡ event ∷ others → IsPolled s.client.core now r core → (r ≡ poll.WaitUntil now) × (core ≡ s.client.core)
      waits_one event others r some is = c.connections_are_requested_for.ensures.waits h (permitted_in link) link.number link.peer link.first event others s.client.core core now r (subst (λ (l : List TurnEvent). Learned h l s.client.core) some s.client.is) is

      eventful_polled : (event : TurnEvent) (others : List TurnEvent) (ret : Answer) → s.events ≡ event ∷ others → IsPolledAs ret s.client.core now core → IsAtStep plan old address lifetime link (polled ret Eventful) v
      eventful_polled event others (answer.Wait time) some is =
          let a = waits_one event others (poll.WaitUntil time) some is in
          moves plan old w v address lifetime link [] [] Learned (λ h events p. (events ≢ []) × Learned h events p) s same core there s.events
          (λ none. Prim.cc (sym some ∙ none), subst (λ (x : Protocol). Learned h s.events x) (sym a.1) s.client.is)
      eventful_polled event others (answer.Socket id socket peer) some is = absurd (Prim.cc (waits_one event others (poll.AllocateTcpSocket id socket peer) some is).0)
      eventful_polled event others (answer.Close local remote) some is = absurd (Prim.cc (waits_one event others (poll.TcpClose local remote) some is).0)
      eventful_polled event others answer.Closed some is = absurd (Prim.cc (waits_one event others poll.Closed some is).0)
      eventful_polled event others _ some is = absurd is

    known_polled : (now : ℕ) → now ≤ client_end → (ret : Answer) → IsStep (Call call.Poll now) w ret v → IsAtStep plan old address lifetime link (polled ret Eventful) v
    known_polled now early ret step =
        let on = poll_called (control_at plan.client.transport []) w v s.client.core now ret s.client.there early step in
        by s.events refl on.core on.there on.desk on.reported
      where
        by : (events : List TurnEvent) → s.events ≡ events → (core : Protocol) → v.client ≡ Some (over (control_at plan.client.transport []) core) → v.desk ≡ w.desk → IsPolledAs ret s.client.core now core → IsAtStep plan old address lifetime link (polled ret Eventful) v
        by [] none core there same is = clear_polled Eventful now core there same ret none is
        by (event ∷ others) some core there same is = eventful_polled Eventful now core there same event others ret some is

    none_polled : (now : ℕ) → now ≤ client_end → s.events ≡ [] → (ret : Answer) → IsStep (Call call.Poll now) w ret v → IsAtStep plan old address lifetime link (polled ret Off) v
    none_polled now early none ret step =
        let on = poll_called (control_at plan.client.transport []) w v s.client.core now ret s.client.there early step in
        clear_polled Off now on.core on.there on.desk ret none on.reported

  -- ---- it is reported of a socket

  module _ (number : ℕ) (socket : Socket5Tuple) (peer : SocketAddr) (s : IsAtStep plan old address lifetime link (Waiting number socket peer) w) (apart : link.local ≢ plan.client.here) (now : ℕ) where
    abbrev k : Holder
    k = holder_in plan address lifetime s.auth s.standing

    abbrev p : Protocol
    p = s.client.core

    own_so : own_tuple p ≡ own_tuple_of k
    own_so = Prim.cc (s.client.is.is.settings.transport, s.client.is.is.settings.here, s.client.is.is.settings.server)

    opened_by : (ret : Answer) (after : ClientState) → v.client ≡ Some after → v.desk ≡ w.desk → IsSocketTaken ret link.number link.peer (Some link.local) (over (control_at plan.client.transport []) p) now after
        → IsAtStep plan old address lifetime link (called ret (Opened link.first) Off) v
    opened_by answer.Done after there same is =
        let mine = subst (λ (x : Socket5Tuple). IsSocketAnswered p link.number x link.peer (Some link.local) now (Ok tt) after.core) own_so is.core in
        let a = c.connections_are_joined.ensures.requested k (permitted_in link) link.number link.peer link.local link.first s.events p after.core now s.client.is.is mine in
        let stored : after.control ≡ control_at plan.client.transport [] = is.control
        ∙ ap (λ (b : Bool). if b then replaced (control_at plan.client.transport []) else control_at plan.client.transport [])
        (ap (is_same_address link.local) s.client.is.is.settings.here ∙ apart_address link.local plan.client.here apart) in
        moves plan old w v address lifetime link [] [] (λ h events q. IsWaitingFor link number socket peer h events q) (λ h events q. OfNumber (λ n. IsOpened link link.first h events q n)) s same after.core
        (there ∙ ap Some (stays (control_at plan.client.transport []) after stored)) s.events
        (record { number = a.0; fits = a.1; is = record { older = []; made = now; apart = apart; lawful = a.2; is = a.3 } })
    opened_by (answer.Refused (SocketRefused error)) after there same is =
        let mine = subst (λ (x : Socket5Tuple). IsSocketAnswered p link.number x link.peer (Some link.local) now (Err error) after.core) own_so is.0.core in
        let both = c.connections_are_joined.ensures.answered k (permitted_in link) link.number link.number link.peer link.peer link.local link.first s.events p after.core now (Err error) s.client.is.is mine (λ none. is.1 (Prim.cc none)) in
        Prim.cc (both.1 (refl, refl))
    opened_by _ after there same is = absurd is

    opens : now ≤ client_end → (ret : Answer) → IsStep (Call (call.AllocatedTcpSocket link.number link.peer (Some link.local)) now) w ret v → IsAtStep plan old address lifetime link (called ret (Opened link.first) Off) v
    opens early ret step =
        let on = socket_called (control_at plan.client.transport []) w v p now ret s.client.there early link.number link.peer (Some link.local) step in
        opened_by ret on.after on.there on.desk on.taken

pub returns-clause-emptied : goal.returns-clause-emptied
returns-clause-emptied c = λ plan old w v address lifetime link progress ret now at s early step. empties c plan old w v address lifetime link (knows c plan old w v address lifetime link progress at s) now early ret step

pub returns-clause-polled_known : goal.returns-clause-polled_known
returns-clause-polled_known c = λ plan old w v address lifetime link progress ret now at s early step. known_polled c plan old w v address lifetime link (knows c plan old w v address lifetime link progress at s) now early ret step

pub returns-clause-polled_clear : goal.returns-clause-polled_clear
returns-clause-polled_clear c = λ plan old w v address lifetime link ret now s early step.
    none_polled c plan old w v address lifetime link (clears c plan old w v address lifetime link s) now early s.client.is.0 ret step

pub returns-clause-opened : goal.returns-clause-opened
returns-clause-opened c = λ plan old w v address lifetime link ret number now socket peer s apart early step. opens c plan old w v address lifetime link number socket peer s apart now early ret step
