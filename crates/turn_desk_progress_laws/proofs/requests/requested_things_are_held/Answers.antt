use Rattle.std.proofs.Common.{◌≡◌, ℕ, ◌≤◌, ◌<◌, ◌^◌, List, [], Some, true, ap, refl, sym, ◌∙◌, subst, inl, inr}
use Rattle.std.specs.Prelude.{Ok, Err, Vec}
use Rattle.std.specs.declared.alloc.Global.{Global}
use Rattle.std.specs.Net.Socket.{socket_ip}
use Rattle.std.specs.declared.net.ip_addr.IpAddr.{IpAddr}
use Rattle.std.specs.declared.net.socket_addr.SocketAddr.{SocketAddr}
use Rattle.turn_desk_core.specs.StunTypesBase.declared.transport.TransportType.{TransportType}
use Rattle.turn_desk_core.specs.StunTypesBase.declared.transport.TransportType.TheVariants.{Udp}
use Rattle.turn_desk_event.specs.StunProtoTransaction.Schedule.{end_at}
use Rattle.turn_client_proto_messages.specs.Allocation.declared.allocation.Allocation.{Allocation}
use Rattle.turn_desk_world_laws.specs.TurnClientProtoConnection.Streams.{emptied_in}
use Rattle.turn_client_proto_messages.specs.Allocation.Permits.{permits}
use Rattle.turn_client_proto_api.specs.Sent.{Sent}
use Rattle.turn_client_proto_progress_laws.specs.Asking.{APermission, AChannel, HasRequested, IsMade, MayBind, MayPermit}
use Rattle.turn_client_proto_progress_laws.specs.Holding.{HoldsChannel, HoldsPermission, IsBoundTo, IsDataOf, IsFrameOf}
use Rattle.turn_client_proto_progress_laws.specs.Speaking.{AreHeldBeyond}
use Rattle.turn_client_proto_progress_laws.proofs.Asking.Given.{gives_data}
use Rattle.turn_desk_world_laws.specs.World.Calls.{IsBindReported, IsCallReported, IsCalled, IsPermissionReported}
use Rattle.turn_client_proto_step_laws.specs.Recv.Control.{Control, Datagrams}
use Rattle.turn_client_proto_step_laws.specs.Recv.ClientState.{ClientState, Protocol}
use Rattle.turn_desk_world_laws.specs.World.Model.{World}
use Rattle.turn_desk_world_laws.specs.World.Runs.{IsRun, IsStep, is_in_range}
use Rattle.turn_desk_core.specs.State.{State}
use Rattle.turn_desk_event.specs.declared.answer.Answer.{Answer}
use Rattle.turn_desk_event.specs.declared.answer.Answer.TheVariants as answer
use Rattle.turn_desk_event.specs.declared.answer.Refusal.TheVariants.{BindChannel as BindRefused, CreatePermission as PermissionRefused}
use Rattle.turn_desk_event.specs.declared.event.ClientCall.{ClientCall}
use Rattle.turn_desk_event.specs.declared.event.ClientCall.TheVariants.{BindChannel, CreatePermission}
use Rattle.turn_desk_event.specs.declared.event.Event.{Event}
use Rattle.turn_desk_event.specs.declared.event.Event.TheVariants.{Call, ToClient}
use Rattle.turn_desk_progress_laws.specs.Promises.{HasClient, IsFresh, control_at, over}
use Rattle.turn_desk_progress_laws.specs.Scripts.{Done, IsScript, Plan, Start}
use Rattle.turn_desk_progress_laws.proofs.Clients.{IsDone, done, done_so, same_desk, stays}
use Rattle.turn_desk_progress_laws.specs.Asking.{Got, Idle, IsAskingScript, IsCleanRun, IsRequestOf, Pending, replies_in}
use Rattle.turn_desk_progress_laws.specs.RequestPromises.{IsAnsweredBy, IsChannelHeld, IsPermissionHeld}
use Rattle.turn_desk_progress_laws.proofs.Following.{IsReady, SpeaksIn, clean, replies_on}
use Rattle.turn_desk_progress_laws.proofs.RequestComing.{data_given, frame_answered, holder_waits, nothing_of}
use Rattle.turn_desk_progress_laws.proofs.Desks.{IsDeskOf}
use Rattle.turn_desk_progress_laws.proofs.Parts.{desk_on}
use Rattle.turn_desk_progress_laws.proofs.Script.{asking}
use Rattle.turn_desk_progress_laws.proofs.requests.requested_things_are_held.Goals as goal

-- A channel stays when buffered bytes are given.
bound_still : (a : Allocation) (channel : ℕ) (peer : SocketAddr) → IsBoundTo channel peer a → IsBoundTo channel peer (emptied_in a)
bound_still a channel peer is = record { standing = is.standing; first = is.first; number = is.number; to = is.to }

-- ---- the calls

permission_reported : (transport : TransportType) (ip : IpAddr) (p : Protocol) (q : ClientState) (c : Control) (at : ℕ) (ret : Answer) → IsCallReported (CreatePermission transport ip) ret (over c p) at q → IsPermissionReported ret transport ip p at q.core × (q.control ≡ c)
unfolding IsCallReported IsCalled
permission_reported transport ip p q c at ret is = is

channel_reported : (transport : TransportType) (peer : SocketAddr) (p : Protocol) (q : ClientState) (c : Control) (at : ℕ) (ret : Answer) → IsCallReported (BindChannel transport peer) ret (over c p) at q → IsBindReported ret transport peer p at q.core × (q.control ≡ c)
unfolding IsCallReported IsCalled
channel_reported transport peer p q c at ret is = is

module _ (c : goal.After-frames_are_taken) (plan : Plan) (old one two : World) (first second : List (Event × Answer)) (signed : Sent) (reply : List ℕ) (address : SocketAddr) (lifetime : ℕ) (fresh : IsFresh plan old) (run : IsRun old first one)
    (script : IsScript plan Start first (Done signed address lifetime reply)) (again : IsRun one second two) (is_clean : IsCleanRun plan (replies_in first []) Idle second Idle) where
  abbrev realm : List ℕ
  realm = old.desk.auth.realm

  begins : IsDeskOf plan.client realm old.desk
  begins = record { realm_is = refl; user = fresh.user; hashes = fresh.hashes }

  ready : SpeaksIn plan realm address [] two
  ready = (clean plan realm address second (replies_in first []) Idle Idle one two (replies_on plan realm first [] old one begins (λ r none. absurd none) run) (record {
    speaks = record {
      client = c.honest_runs_leave_speakers.ensures plan old one first signed address lifetime reply fresh run script;
      desk = desk_on plan.client realm first old one begins run;
    };
    way = tt;
  }) again is_clean).speaks

  abbrev control : Control
  control = control_at plan.client.transport []

  abbrev p : Protocol
  p = ready.client.core

  -- What holds of the client holds of this one.
  core_is : (k : ClientState) → two.client ≡ Some k → k ≡ over control p
  core_is k there = Prim.cc (sym there ∙ ready.client.there)

  of_it : (Is : Protocol → Type 0) → HasClient plan [] two Is → Is p
  of_it Is h = subst (λ (k : ClientState). Is k.core) (core_is (over control h.core) h.there) h.is

  -- A call returned.
  module _ (three : World) (what : ClientCall) (made : ℕ) (Reported : Answer → Protocol → Type 0) (reported_so : (ret : Answer) (q : ClientState) → IsCallReported what ret (over control p) made q → Reported ret q.core × (q.control ≡ control)) where
    record IsRequested (ret : Answer) : Type 0 where
      after : Protocol
      there : three.client ≡ Some (over control after)
      reported : Reported ret after
      desk : three.desk ≡ two.desk

    by_done : (ret : Answer) → IsStep (Call what made) two ret three → (d : IsDone control made (λ x y. IsCallReported what ret x made y) p ret three.client) → IsCallReported what ret (over control p) made d.after → IsRequested ret
    by_done ret step d does =
        let reported = reported_so ret d.after does in
        record { after = d.after.core; there = d.there ∙ ap Some (stays control d.after reported.1); reported = reported.0; desk = same_desk two three step.1 }

    requested_early : (ret : Answer) → made ≤ 2 ^ 62 → IsStep (Call what made) two ret three → IsRequested ret
    requested_early ret early step =
        let d = done control made _ p two.client three.client ret ready.client.there step.0 in
        by_done ret step d (done_so control made _ p ret three.client early d)

    requested_done : IsStep (Call what made) two answer.Done three → IsRequested answer.Done
    requested_done step =
        let d = done control made _ p two.client three.client answer.Done ready.client.there step.0 in
        elim d.outcome [
          | inl does ↦ by_done answer.Done step d does.1
          | inr out ↦ absurd (Prim.cc out.0)
        ]

    -- The call's request.
    own_made : (request : List ℕ) (a : IsRequested answer.Done) → IsRequestOf two three request → IsMade p a.after request
    own_made request a r =
        let new_is : r.new ≡ over control a.after = Prim.cc (sym r.new_there ∙ a.there) in
        subst (λ (k : ClientState). IsMade p k.core request) new_is (subst (λ (k : ClientState). IsMade k.core r.new.core request) (core_is r.old r.old_there) r.made)

    one_made : (a : IsRequested answer.Done) → (request : List ℕ) × IsMade p a.after request → (request : List ℕ) × IsRequestOf two three request
    one_made a m = (m.0, record { old = over control p; old_there = ready.client.there; new = over control a.after; new_there = a.there; made = m.1 })

    -- The state of the simulation then.
    ready_three : (a : IsRequested answer.Done) (Is : Protocol → Type 0) → Is a.after → IsReady plan realm [] Is three
    ready_three a Is is = record {
      client = record { core = a.after; there = a.there; is = is };
      desk = subst (λ (d : State). IsDeskOf plan.client realm d) (sym a.desk) ready.desk;
    }

  -- ---- a permission

  module _ (three : World) (transport : TransportType) (ip : IpAddr) (made : ℕ) where
    abbrev permission_so : (ret : Answer) (q : ClientState) → IsCallReported (CreatePermission transport ip) ret (over control p) made q → IsPermissionReported ret transport ip p made q.core × (q.control ≡ control)
    permission_so ret q is = permission_reported transport ip p q control made ret is

    abbrev WasPermitted : Answer → Type 0
    WasPermitted ret = IsRequested three (CreatePermission transport ip) made (λ r q. IsPermissionReported r transport ip p made q) permission_so ret

    abbrev May : Type 0
    May = HasClient plan [] two (λ x. MayPermit plan.client address transport ip made x)

    permission_answers : (ret : Answer) (after : Protocol) → IsPermissionReported ret transport ip p made after → (ret ≡ answer.Done → May) × (May → ret ≡ answer.Done)
    permission_answers answer.Done after reported =
        let both = c.permissions_are_requested_for.ensures.answered plan.client realm address p after transport ip made (Ok tt) ready.client.is (λ e. Prim.cc e) reported in
        (λ is. record { core = p; there = ready.client.there; is = both.0 refl }, λ may. refl)
    permission_answers (answer.Refused (PermissionRefused error)) after reported =
        let both = c.permissions_are_requested_for.ensures.answered plan.client realm address p after transport ip made (Err error) ready.client.is (λ e. reported.1 (Prim.cc e)) reported.0 in
        (λ is. absurd (Prim.cc is), λ may. absurd (Prim.cc (both.1 (of_it (λ x. MayPermit plan.client address transport ip made x) may))))
    permission_answers _ after reported = absurd reported

    pub permission_answered : (ret : Answer) → made ≤ 2 ^ 62 → IsStep (Call (CreatePermission transport ip) made) two ret three → (ret ≡ answer.Done → May) × (May → ret ≡ answer.Done)
    permission_answered ret early step =
        let a = requested_early three (CreatePermission transport ip) made (λ r q. IsPermissionReported r transport ip p made q) permission_so ret early step in
        permission_answers ret a.after a.reported

    abbrev permission_done : IsStep (Call (CreatePermission transport ip) made) two answer.Done three → WasPermitted answer.Done
    permission_done step = requested_done three (CreatePermission transport ip) made (λ r q. IsPermissionReported r transport ip p made q) permission_so step

    pub permission_made : IsStep (Call (CreatePermission transport ip) made) two answer.Done three → (request : List ℕ) × IsRequestOf two three request
    permission_made step =
        let a = permission_done step in
        one_made three (CreatePermission transport ip) made (λ r q. IsPermissionReported r transport ip p made q) permission_so a (c.permissions_are_requested_for.ensures.one plan.client realm address p a.after transport ip made ready.client.is a.reported)

  module _ (three four : World) (third : List (Event × Answer)) (ip : IpAddr) (made now : ℕ) (request grant : List ℕ) (beyond : HasClient plan [] two (λ x. AreHeldBeyond now x.allocations)) (early : now < end_at made plan.client.config.waits)
      (step : IsStep (Call (CreatePermission plan.client.config.transport ip) made) two answer.Done three) (one_request : IsRequestOf two three request) (on : IsRun three third four) (asks : IsAskingScript plan request now Pending third (Got grant)) where
    abbrev what : ClientCall
    what = CreatePermission plan.client.config.transport ip

    abbrev so : (ret : Answer) (q : ClientState) → IsCallReported what ret (over control p) made q → IsPermissionReported ret plan.client.config.transport ip p made q.core × (q.control ≡ control)
    so ret q is = permission_reported plan.client.config.transport ip p q control made ret is

    abbrev Reported : Answer → Protocol → Type 0
    Reported r q = IsPermissionReported r plan.client.config.transport ip p made q

    abbrev a : IsRequested three what made Reported so answer.Done
    a = requested_done three what made Reported so step

    requested_by : HasRequested plan.client realm address (APermission ip) request now a.after
    requested_by =
        c.permissions_are_requested_for.ensures.requested plan.client realm address p a.after plan.client.config.transport ip made now request ready.client.is (of_it (λ x. AreHeldBeyond now x.allocations) beyond) early a.reported
        (own_made three what made Reported so request a one_request)

    got : HasClient plan [] four (λ x. HoldsPermission plan.client ip x) × (is_in_range now ≡ true)
    got = asking plan realm address (APermission ip) request now (λ x. HoldsPermission plan.client ip x)
        (λ x is. c.requests_are_own.ensures plan.client realm address (APermission ip) request now x is)
        (λ r x y handled is g processed. (c.granted_permissions_are_held.ensures.holds plan.client realm address ip request r now x y handled is g processed).1)
        (λ x is. holder_waits plan.client (λ a. permits ip a ≡ true) (λ a is. is) plan.client.transport [] x is (nothing_of plan.client.transport))
        third three four Pending (Got grant) (ready_three three what made Reported so a (λ x. HasRequested plan.client realm address (APermission ip) request now x) requested_by) on asks

    abbrev h : HasClient plan [] four (λ x. HoldsPermission plan.client ip x)
    h = got.0

    datagrams : plan.client.transport ≡ Udp → four.client ≡ Some (over Datagrams h.core)
    datagrams udp = h.there ∙ ap (λ (t : TransportType). Some (over (control_at t []) h.core)) udp

    used : (peer : SocketAddr) (payload : List ℕ) (bytes : Vec ℕ Global) (ret : Answer) (next : World) → plan.client.transport ≡ Udp → socket_ip peer ≡ ip → IsDataOf peer payload bytes.items → IsStep (ToClient bytes plan.client.server plan.client.here now) four ret next
        → IsAnsweredBy plan peer payload ret
    used peer payload bytes ret next over_udp same data_of comes =
        let visible = c.datagrams_are_taken.ensures.visible peer payload bytes.items data_of in
        let g = gives_data plan.client ip h.core h.is peer payload bytes.items same visible.0 visible.1 in
        let is = data_given plan.client four next h.core h.is.settings bytes now ret (datagrams over_udp) got.1 comes plan.client.config.transport peer g.start g.end payload g.gives g.part in
        record { given = is.given; answer_is = is.answer_is; is = record { payload_is = is.payload_is; transport_is = is.transport_is; peer_is = is.peer_is } }

    pub permission_held : IsPermissionHeld plan ip now four
    permission_held = record {
      held = record { core = h.core; there = h.there; is = c.granted_permissions_are_held.ensures.had plan.client ip h.core h.is };
      used = used;
    }

  -- ---- a channel

  module _ (three : World) (transport : TransportType) (peer : SocketAddr) (made : ℕ) where
    abbrev channel_so : (ret : Answer) (q : ClientState) → IsCallReported (BindChannel transport peer) ret (over control p) made q → IsBindReported ret transport peer p made q.core × (q.control ≡ control)
    channel_so ret q is = channel_reported transport peer p q control made ret is

    abbrev MayBindTo : Type 0
    MayBindTo = HasClient plan [] two (λ x. MayBind plan.client address transport peer made x)

    channel_answers : (ret : Answer) (after : Protocol) → IsBindReported ret transport peer p made after → (ret ≡ answer.Done → MayBindTo) × (MayBindTo → ret ≡ answer.Done)
    channel_answers answer.Done after reported =
        let both = c.channels_are_requested_for.ensures.answered plan.client realm address p after transport peer made (Ok tt) ready.client.is (λ e. Prim.cc e) reported in
        (λ is. record { core = p; there = ready.client.there; is = both.0 refl }, λ may. refl)
    channel_answers (answer.Refused (BindRefused error)) after reported =
        let both = c.channels_are_requested_for.ensures.answered plan.client realm address p after transport peer made (Err error) ready.client.is (λ e. reported.1 (Prim.cc e)) reported.0 in
        (λ is. absurd (Prim.cc is), λ may. absurd (Prim.cc (both.1 (of_it (λ x. MayBind plan.client address transport peer made x) may))))
    channel_answers _ after reported = absurd reported

    pub channel_answered : (ret : Answer) → made ≤ 2 ^ 62 → IsStep (Call (BindChannel transport peer) made) two ret three → (ret ≡ answer.Done → MayBindTo) × (MayBindTo → ret ≡ answer.Done)
    channel_answered ret early step =
        let a = requested_early three (BindChannel transport peer) made (λ r q. IsBindReported r transport peer p made q) channel_so ret early step in
        channel_answers ret a.after a.reported

    pub channel_made : IsStep (Call (BindChannel transport peer) made) two answer.Done three → (request : List ℕ) × IsRequestOf two three request
    channel_made step =
        let a = requested_done three (BindChannel transport peer) made (λ r q. IsBindReported r transport peer p made q) channel_so step in
        one_made three (BindChannel transport peer) made (λ r q. IsBindReported r transport peer p made q) channel_so a (c.channels_are_requested_for.ensures.one plan.client realm address p a.after transport peer made ready.client.is a.reported)

  module _ (three four : World) (third : List (Event × Answer)) (peer : SocketAddr) (made now : ℕ) (request grant : List ℕ) (beyond : HasClient plan [] two (λ x. AreHeldBeyond now x.allocations)) (early : now < end_at made plan.client.config.waits)
      (step : IsStep (Call (BindChannel plan.client.config.transport peer) made) two answer.Done three) (one_request : IsRequestOf two three request) (on : IsRun three third four) (asks : IsAskingScript plan request now Pending third (Got grant)) where
    abbrev bind : ClientCall
    bind = BindChannel plan.client.config.transport peer

    abbrev bind_so : (ret : Answer) (q : ClientState) → IsCallReported bind ret (over control p) made q → IsBindReported ret plan.client.config.transport peer p made q.core × (q.control ≡ control)
    bind_so ret q is = channel_reported plan.client.config.transport peer p q control made ret is

    abbrev BindReported : Answer → Protocol → Type 0
    BindReported r q = IsBindReported r plan.client.config.transport peer p made q

    abbrev bound : IsRequested three bind made BindReported bind_so answer.Done
    bound = requested_done three bind made BindReported bind_so step

    abbrev requested_channel : (channel : ℕ) × HasRequested plan.client realm address (AChannel channel peer) request now bound.after
    requested_channel =
        c.channels_are_requested_for.ensures.requested plan.client realm address p bound.after plan.client.config.transport peer made now request ready.client.is (of_it (λ x. AreHeldBeyond now x.allocations) beyond) early bound.reported
        (own_made three bind made BindReported bind_so request bound one_request)

    abbrev channel : ℕ
    channel = requested_channel.0

    got_channel : HasClient plan [] four (λ x. HoldsChannel plan.client channel peer x) × (is_in_range now ≡ true)
    got_channel = asking plan realm address (AChannel channel peer) request now (λ x. HoldsChannel plan.client channel peer x)
        (λ x is. c.requests_are_own.ensures plan.client realm address (AChannel channel peer) request now x is)
        (λ r x y handled is g processed. (c.granted_channels_are_held.ensures.holds plan.client realm address channel peer request r now x y handled is g processed).1)
        (λ x is. holder_waits plan.client (λ a. IsBoundTo channel peer a) (λ a is. bound_still a channel peer is) plan.client.transport [] x is (nothing_of plan.client.transport))
        third three four Pending (Got grant) (ready_three three bind made BindReported bind_so bound (λ x. HasRequested plan.client realm address (AChannel channel peer) request now x) requested_channel.1) on asks

    abbrev k : HasClient plan [] four (λ x. HoldsChannel plan.client channel peer x)
    k = got_channel.0

    channel_datagrams : plan.client.transport ≡ Udp → four.client ≡ Some (over Datagrams k.core)
    channel_datagrams udp = k.there ∙ ap (λ (t : TransportType). Some (over (control_at t []) k.core)) udp

    frame_used : (payload : List ℕ) (bytes : Vec ℕ Global) (ret : Answer) (next : World) → plan.client.transport ≡ Udp → IsFrameOf channel payload bytes.items → IsStep (ToClient bytes plan.client.server plan.client.here now) four ret next → IsAnsweredBy plan peer payload ret
    frame_used payload bytes ret next over_udp frame comes =
        let is = frame_answered plan.client four next k.core k.is.settings bytes now ret (channel_datagrams over_udp) got_channel.1 comes channel peer k.is payload frame in
        record { given = is.given; answer_is = is.answer_is; is = record { payload_is = is.payload_is; transport_is = is.transport_is; peer_is = is.peer_is } }

    pub channel_held : IsChannelHeld plan peer now four
    channel_held = record {
      number = channel;
      held = record { core = k.core; there = k.there; is = c.granted_channels_are_held.ensures.visible plan.client channel peer k.core k.is };
      used = frame_used;
    }

pub returns-clause-permission : goal.returns-clause-permission
returns-clause-permission c = λ plan old one two three four first second third signed reply request grant address lifetime made now ip fresh run script again is_clean beyond early step one_request on asks.
    permission_held c plan old one two first second signed reply address lifetime fresh run script again is_clean three four third ip made now request grant beyond early step one_request on asks

pub returns-clause-channel : goal.returns-clause-channel
returns-clause-channel c = λ plan old one two three four first second third signed reply request grant address lifetime made now peer fresh run script again is_clean beyond early step one_request on asks.
    channel_held c plan old one two first second signed reply address lifetime fresh run script again is_clean three four third peer made now request grant beyond early step one_request on asks

pub returns-clause-permitted : goal.returns-clause-permitted
returns-clause-permitted c = λ plan old one two three first second signed reply address lifetime made transport ip ret fresh run script again is_clean early step.
    permission_answered c plan old one two first second signed reply address lifetime fresh run script again is_clean three transport ip made ret early step

pub returns-clause-bindable : goal.returns-clause-bindable
returns-clause-bindable c = λ plan old one two three first second signed reply address lifetime made transport peer ret fresh run script again is_clean early step.
    channel_answered c plan old one two first second signed reply address lifetime fresh run script again is_clean three transport peer made ret early step

pub returns-clause-permission_request : goal.returns-clause-permission_request
returns-clause-permission_request c = λ plan old one two three first second signed reply address lifetime made transport ip fresh run script again is_clean step.
    permission_made c plan old one two first second signed reply address lifetime fresh run script again is_clean three transport ip made step

pub returns-clause-channel_request : goal.returns-clause-channel_request
returns-clause-channel_request c = λ plan old one two three first second signed reply address lifetime made transport peer fresh run script again is_clean step.
    channel_made c plan old one two first second signed reply address lifetime fresh run script again is_clean three transport peer made step
