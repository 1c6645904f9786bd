-- What becomes of a request whose response the client of a simulation awaits.
use Rattle.std.proofs.Common.{◌≡◌, ℕ, ◌<◌, ◌≤◌, ◌+◌, arith, Bool, true, length, List, [], ◌++◌, Option, Some, refl, sym, ap, ◌∙◌, subst, inl, inr}
use Rattle.std.specs.Prelude.{Ok, Vec}
use Rattle.std.specs.declared.alloc.Global.{Global}
use Rattle.std.specs.Net.Socket.{socket_ip}
use Rattle.std.specs.declared.net.ip_addr.IpAddr.{IpAddr}
use Rattle.std.specs.declared.net.socket_addr.SocketAddr.{SocketAddr}
use Rattle.turn_desk_core.specs.StunTypesBase.Times.{time_after}
use Rattle.turn_desk_core.specs.StunTypesBase.declared.transport.TransportType.{TransportType}
use Rattle.turn_desk_core.specs.StunTypesBase.declared.transport.TransportType.TheVariants.{Tcp, Udp}
use Rattle.turn_client_proto_api.specs.Payloads.{PeerPayload}
use Rattle.turn_client_proto_api.specs.Sent.{Sent}
use Rattle.turn_client_proto_api.specs.TurnTypesFrame.Streams.{alive}
use Rattle.turn_client_proto_messages.specs.Allocation.declared.allocation.Allocation.{Allocation}
use Rattle.turn_client_proto_messages.specs.Allocation.Permits.{permits}
use Rattle.turn_client_proto_messages.specs.StunProtoTransaction.Schedule.{end_at}
use Rattle.turn_client_proto_handshake_laws.specs.Core.Receiving.{IsProcessed}
use Rattle.turn_client_proto_handshake_laws.specs.Core.declared.protocol.Phase.TheVariants.{Authenticated}
use Rattle.turn_client_proto_handshake_laws.specs.Driving.{client_end}
use Rattle.turn_client_proto_progress_laws.specs.Asking.{APermission, AChannel, HasMadeRequest, Wanted}
use Rattle.turn_client_proto_progress_laws.specs.Holding.{HoldsChannel, HoldsPermission, IsBoundTo, IsDataOf, IsFrameOf, IsGrantOf}
use Rattle.turn_client_proto_progress_laws.specs.Speaking.{AreHeldBeyond, Speaks}
use Rattle.turn_client_proto_progress_laws.proofs.Asking.Asks.{asks, made as made_so, own_request as own_permission}
use Rattle.turn_client_proto_progress_laws.proofs.Asking.Binds.{binds as asks_channel, bound, own_request as own_channel}
use Rattle.turn_client_proto_progress_laws.proofs.Asking.Bound.{binds, none_counted as none_after_channel, shows_it}
use Rattle.turn_client_proto_progress_laws.proofs.Asking.Chunks.{IsTakenFrom, Nothing as TakenNothing, Raw, nothing_stored, taken_from}
use Rattle.turn_client_proto_progress_laws.proofs.Asking.Given.{data_has, data_of_peer, gives_data}
use Rattle.turn_client_proto_progress_laws.proofs.Asking.Granted.{holds, none_counted as none_after_permission, says_so}
use Rattle.turn_client_proto_progress_laws.proofs.Asking.Own.{AreRead, DoClaim, claims_own, is_own, shows_method, shows_number}
use Rattle.turn_client_proto_step_laws.specs.Recv.ClientState.{ClientState, Protocol}
use Rattle.turn_client_proto_step_laws.specs.Recv.Control.{Datagrams, Open}
use Rattle.turn_client_proto_step_laws.specs.Recv.Receipts.{IsWaitingGiven}
use Rattle.turn_client_proto_messages.specs.Api.Options.{cadence}
use Rattle.turn_desk_world_laws.specs.TurnClientProtoConnection.Streams.{emptied_in}
use Rattle.turn_desk_world_laws.specs.World.Calls.{IsBindReported, IsPermissionReported}
use Rattle.turn_desk_world_laws.specs.World.Model.{World}
use Rattle.turn_desk_world_laws.specs.World.Runs.{IsRun, IsStep}
use Rattle.turn_desk_event.specs.declared.answer.Answer.{Answer}
use Rattle.turn_desk_event.specs.declared.answer.Answer.TheVariants as answer
use Rattle.turn_desk_event.specs.declared.event.ClientCall.{ClientCall}
use Rattle.turn_desk_event.specs.declared.event.ClientCall.TheVariants as call
use Rattle.turn_desk_event.specs.declared.event.Event.{Event}
use Rattle.turn_desk_event.specs.declared.event.Event.TheVariants.{Call, Draw, ToClient}
use Rattle.turn_desk_progress_laws.specs.Asking.{IsRequestOf}
use Rattle.turn_desk_progress_laws.specs.Loops.{Gives, MayBegin, sent_after}
use Rattle.turn_desk_progress_laws.specs.Promises.{HasClient, control_at, over}
use Rattle.turn_desk_progress_laws.specs.RequestPromises.{IsAnsweredBy, IsChannelHeld, IsPermissionHeld}
use Rattle.turn_desk_progress_laws.specs.Scripts.{Plan}
use Rattle.turn_desk_progress_laws.proofs.Calls.{DoesWait, acted_asks}
use Rattle.turn_desk_progress_laws.proofs.Clients.{within}
use Rattle.turn_desk_progress_laws.proofs.Desks.{IsDeskOf}
use Rattle.turn_desk_progress_laws.proofs.Following.{IsReady}
use Rattle.turn_desk_progress_laws.proofs.Looping.{passes}
use Rattle.turn_desk_progress_laws.proofs.RequestComing.{asker_waits, data_given, frame_answered, holder_waits, nothing_of}
use Rattle.turn_desk_laws.specs.AwaitedRequests.{IsCallFor}
use Rattle.turn_desk_laws.specs.RenewalStages.{KeepsSettings}
use Rattle.turn_desk_laws.specs.RequestLoops.{Again, Before, Got, HasAllocated, HasLastSent, IsAskingLoop, IsDrawOf, IsGiven, IsNext, IsOutstanding, IsQueued, IsQueuedAfter, IsRequestCall, Itself, Pending, RequestPosition, Stage, requested}
use Rattle.turn_desk_laws.proofs.RenewalWorlds.{keeps_first, keeps_on, keeps_run, serving_of}
use Rattle.turn_desk_laws.proofs.RequestMade as established
use Rattle.turn_desk_laws.proofs.RequestQueue.{Given, IsBehind, IsGrown, IsInTime, Left, Next, Owns, Repeats, bind_queue, channel_stands, drawn_behind, drawn_in_time, drawn_last, grown_behind, grown_last, last_on, not_resting, permission_queue, permission_stands}
use Rattle.turn_desk_laws.proofs.RequestRuns.{DoAsk, IsAtStage, IsDrawnAs, asking, draws_on, gives_so, same_core, waiting}

-- ---- what the client holds then

-- A channel stays when buffered bytes are given.
bound_still : (a : Allocation) (channel : ℕ) (peer : SocketAddr) → IsBoundTo channel peer a → IsBoundTo channel peer (emptied_in a)
bound_still a channel peer is = record { standing = is.standing; first = is.first; number = is.number; to = is.to }

module _ (plan : Plan) (now : ℕ) (four : World) (early : now ≤ client_end) where
  datagrams : (Held : Protocol → Type 0) (h : HasClient plan [] four Held) → plan.client.transport ≡ Udp → four.client ≡ Some (over Datagrams h.core)
  datagrams Held h udp = h.there ∙ ap (λ (t : TransportType). Some (over (control_at t []) h.core)) udp

  pub permission_held : (ip : IpAddr) → HasClient plan [] four (λ x. HoldsPermission plan.client ip x) → IsPermissionHeld plan ip now four
  permission_held ip h = record {
    held = record { core = h.core; there = h.there; is = says_so plan.client ip h.core h.is };
    used = used;
  }
    where
      used : (peer : SocketAddr) (payload : List ℕ) (bytes : Vec ℕ Global) (ret : Answer) (next : World) → plan.client.transport ≡ Udp → socket_ip peer ≡ ip → IsDataOf peer payload bytes.items → IsStep (ToClient bytes plan.client.server plan.client.here now) four ret next
          → IsAnsweredBy plan peer payload ret
      used peer payload bytes ret next over_udp same data_of comes =
          let g = gives_data plan.client ip h.core h.is peer payload bytes.items same (data_of_peer peer payload bytes.items data_of) (data_has peer payload bytes.items data_of) in
          let is = data_given plan.client four next h.core h.is.settings bytes now ret (datagrams (λ x. HoldsPermission plan.client ip x) h over_udp) (within now early) comes plan.client.config.transport peer g.start g.end payload g.gives g.part in
          record { given = is.given; answer_is = is.answer_is; is = record { payload_is = is.payload_is; transport_is = is.transport_is; peer_is = is.peer_is } }

  pub channel_held : (channel : ℕ) (peer : SocketAddr) → HasClient plan [] four (λ x. HoldsChannel plan.client channel peer x) → IsChannelHeld plan peer now four
  channel_held channel peer h = record {
    number = channel;
    held = record { core = h.core; there = h.there; is = shows_it plan.client channel peer h.core h.is };
    used = used;
  }
    where
      used : (payload : List ℕ) (bytes : Vec ℕ Global) (ret : Answer) (next : World) → plan.client.transport ≡ Udp → IsFrameOf channel payload bytes.items → IsStep (ToClient bytes plan.client.server plan.client.here now) four ret next → IsAnsweredBy plan peer payload ret
      used payload bytes ret next over_udp frame comes =
          let is = frame_answered plan.client four next h.core h.is.settings bytes now ret (datagrams (λ x. HoldsChannel plan.client channel peer x) h over_udp) (within now early) comes channel peer h.is payload frame in
          record { given = is.given; answer_is = is.answer_is; is = record { payload_is = is.payload_is; transport_is = is.transport_is; peer_is = is.peer_is } }

-- ---- the result of a draw

module _ (plan : Plan) (request : List ℕ) (ahead now : ℕ) (w v : World) (ret : Answer) (p q : Protocol) (there : w.client ≡ Some (over (control_at plan.client.transport []) p)) (after : v.client ≡ Some (over (control_at plan.client.transport []) q)) (d : IsDrawnAs p now ret q) where
  drawn_so : IsInTime request ahead p d.given q → IsDrawOf plan request ahead w ret v
  drawn_so (Repeats s is out behind) = Again (record { core = p; there = there; is = gives_so ret s (λ (x : Sent). IsOutstanding x.bytes p) (d.shown s is) out }) (record { core = q; there = after; is = behind })
  drawn_so (Owns first s is own) = Itself first (gives_so ret s (λ (x : Sent). x.bytes ≡ request) (d.shown s is) own)
  drawn_so (Next fewer one s is behind) = Before fewer one (gives_so ret s (λ (x : Sent). Unit {0}) (d.shown s is) tt) (record { core = q; there = after; is = behind })

-- ---- what stays while the request is queued

-- No more messages are before it.
abbrev IsFew : (request : List ℕ) (most : ℕ) → (sent : ℕ) → Protocol → Type 0
IsFew request most sent p = (ahead : ℕ) × (ahead ≤ most) × IsQueuedAfter request ahead p

few_grows : (request : List ℕ) (most sent : ℕ) (p q : Protocol) → IsFew request most sent p → IsGrown p q → IsFew request most sent q
few_grows request most sent p q is g = (is.0, is.1, grown_behind request is.0 p q is.2 g)

few_goes : (request : List ℕ) (most sent at : ℕ) (p q : Protocol) (ret : Answer) → (IsGiven request ret → ⊥) → IsFew request most sent p → IsDrawnAs p at ret q → IsFew request most (sent_after at ret sent) q
few_goes request most sent at p q ret not_given is d = by (drawn_behind request is.0 p is.2 at d.given q d.transmitted)
  where
    by : IsBehind request is.0 d.given q → IsFew request most (sent_after at ret sent) q
    by (Given s same own) = absurd (not_given (gives_so ret s (λ (x : Sent). x.bytes ≡ request) (d.shown s same) own))
    by (Left fewer less behind) = (let few = is.1 in (fewer, omega (arith, less, few), behind))

last_goes : (sent at : ℕ) (p q : Protocol) (ret : Answer) → sent ≤ at → p.phase ≡ Authenticated → HasLastSent sent p → IsDrawnAs p at ret q → HasLastSent (sent_after at ret sent) q
last_goes sent at p q ret early on h d = subst (λ (n : ℕ). HasLastSent n q) (sym (d.sent_is sent)) (last_on sent at p q d.given early h (drawn_last p at d.given q on d.transmitted))

-- What waits doesn't change how many challenges the client answered.
tcp_counts : (p : Protocol) (q : ClientState) → IsTakenFrom (over (Open (alive [])) p) q → q.core.resends ≡ p.resends
tcp_counts p q (TakenNothing same) = ap (λ (x : ClientState). x.core.resends) same
tcp_counts p q (Raw after control) = ap (λ (x : Protocol). x.resends) after

wait_counts : (transport : TransportType) (p : Protocol) (at : ℕ) (given : Option PeerPayload) (q : ClientState) → IsWaitingGiven (over (control_at transport []) p) at given q → q.core.resends ≡ p.resends
wait_counts Udp p at given q r = ap (λ (x : Protocol). x.resends) r.1
wait_counts Tcp p at given q r = tcp_counts p q (taken_from (over (Open (alive [])) p) at given q [] nothing_stored refl r)

-- ---- what becomes of the request

module _ (read : AreRead) (claim : DoClaim) (plan : Plan) (old : World) (may : MayBegin plan old) (address : SocketAddr) (request : List ℕ) (until beyond : ℕ) (Counts : ℕ → Type 0) (sooner : until ≤ beyond) (range : until ≤ client_end) where
  abbrev realm : List ℕ
  realm = old.desk.auth.realm

  abbrev Asks : Wanted → Protocol → Type 0
  Asks wanted p = HasMadeRequest plan.client realm address wanted request until beyond Counts p

  abbrev pub Holds : Wanted → Protocol → Type 0
  Holds (APermission ip) p = HoldsPermission plan.client ip p
  Holds (AChannel channel peer) p = HoldsChannel plan.client channel peer p

  -- It holds that, and has answered no challenge since.
  abbrev pub Held : Wanted → Protocol → Type 0
  Held wanted p = Holds wanted p × (p.resends ≡ 0)

  holds_so : (wanted : Wanted) (reply : List ℕ) (p q : Protocol) (handled : Bool) (now : ℕ) → Asks wanted p → IsGrantOf plan.client realm request reply → IsProcessed p reply now handled q → Holds wanted q
  holds_so (APermission ip) reply p q handled now h g processed =
      (holds plan.client realm address ip request until beyond now Counts p h reply (shows_number plan.client realm address (APermission ip) request until beyond Counts p h read) (claims_own plan.client realm address (APermission ip) request until beyond Counts p h claim)
      (shows_method plan.client realm address (APermission ip) request until beyond Counts p h read) g handled q processed).1
  holds_so (AChannel channel peer) reply p q handled now h g processed =
      (binds plan.client realm address channel peer request until beyond now Counts p h reply (shows_number plan.client realm address (AChannel channel peer) request until beyond Counts p h read)
      (claims_own plan.client realm address (AChannel channel peer) request until beyond Counts p h claim) (shows_method plan.client realm address (AChannel channel peer) request until beyond Counts p h read) g handled q processed).1

  counts_so : (wanted : Wanted) (reply : List ℕ) (p q : Protocol) (handled : Bool) (now : ℕ) → Asks wanted p → IsGrantOf plan.client realm request reply → IsProcessed p reply now handled q → q.resends ≡ 0
  counts_so (APermission ip) reply p q handled now h g processed =
      none_after_permission plan.client realm address ip request until beyond now Counts p h reply (shows_number plan.client realm address (APermission ip) request until beyond Counts p h read) (claims_own plan.client realm address (APermission ip) request until beyond Counts p h claim)
      (shows_method plan.client realm address (APermission ip) request until beyond Counts p h read) g handled q processed
  counts_so (AChannel channel peer) reply p q handled now h g processed =
      none_after_channel plan.client realm address channel peer request until beyond now Counts p h reply (shows_number plan.client realm address (AChannel channel peer) request until beyond Counts p h read)
      (claims_own plan.client realm address (AChannel channel peer) request until beyond Counts p h claim) (shows_method plan.client realm address (AChannel channel peer) request until beyond Counts p h read) g handled q processed

  rests_so : (wanted : Wanted) (p : Protocol) → Holds wanted p → DoesWait (control_at plan.client.transport []) p (Holds wanted)
  rests_so (APermission ip) p h = holder_waits plan.client (λ a. permits ip a ≡ true) (λ a is. is) plan.client.transport [] p h (nothing_of plan.client.transport)
  rests_so (AChannel channel peer) p h = holder_waits plan.client (λ a. IsBoundTo channel peer a) (λ a is. bound_still a channel peer is) plan.client.transport [] p h (nothing_of plan.client.transport)

  both_rest : (wanted : Wanted) (p : Protocol) → Held wanted p → DoesWait (control_at plan.client.transport []) p (Held wanted)
  both_rest wanted p h = λ at given q r.
      let one = rests_so wanted p h.0 at given q r in
      ((one.0, wait_counts plan.client.transport p at given q r ∙ h.1), one.1)

  pub do_ask : (wanted : Wanted) → DoAsk plan realm request wanted until (Asks wanted) (Held wanted)
  do_ask wanted = record {
    of = λ p h. h.speaks.settings;
    on = λ p h. h.phase;
    own = λ p h. is_own plan.client realm address wanted request until beyond Counts p h read claim;
    acts = λ p q at early h acted. acted_asks plan.client realm address wanted request until beyond Counts p q at early (passes at until beyond early sooner) h acted;
    waits = λ head p h stored. asker_waits plan.client realm address wanted request until beyond Counts plan.client.transport head p h stored;
    holds = λ reply p q handled now early h g processed. (holds_so wanted reply p q handled now h g processed, counts_so wanted reply p q handled now h g processed);
    rests = λ p h. both_rest wanted p h;
  }

  module _ (three : World) (wanted : Wanted) (client : HasClient plan [] three (Asks wanted)) (keeps : KeepsSettings plan old three.desk) where
    desk : IsDeskOf plan.client realm three.desk
    desk = (let s = serving_of plan old may three.desk keeps in record { realm_is = s.realm; user = s.user; hashes = s.hashes })

    ready : IsReady plan realm [] (Asks wanted) three
    ready = record { client = client; desk = desk }

    module _ (w : World) (third : List (Event × Answer)) (made sent : ℕ) (position : RequestPosition) (on : IsRun three third w) (loop : IsAskingLoop plan request until (requested made sent) third position) where
      pub stage_so : (stage : Stage) → position.stage ≡ stage → IsAtStage plan old may request wanted until (Asks wanted) (Held wanted) (do_ask wanted) range stage w
      stage_so stage at =
          subst (λ (x : Stage). IsAtStage plan old may request wanted until (Asks wanted) (Held wanted) (do_ask wanted) range x w) at (asking plan old may request wanted until (Asks wanted) (Held wanted) (do_ask wanted) range third three w (requested made sent) position keeps ready on loop)

      -- ---- while it is queued

      module _ (before : sent ≤ made) (pending : position.stage ≡ Pending) where
        pub queued_so : (most : ℕ) → IsQueued plan request most three → (ahead : ℕ) × (ahead ≤ most) × IsQueued plan request ahead w
        queued_so most behind =
            let stands = subst (λ (x : Protocol). IsQueuedAfter request most x) (same_core (control_at plan.client.transport []) behind.core client.core three.client behind.there client.there) behind.is in
            let s = waiting plan old may request wanted until (Asks wanted) (Held wanted) (do_ask wanted) range (IsFew request most) (λ n x y is g. few_grows request most n x y is g)
            (λ n at x y ret early on_phase not_given is d. few_goes request most n at x y ret not_given is d) third three w (requested made sent) position pending
            (record {
              before = before;
              ready = record { client = record { core = client.core; there = client.there; is = (client.is, (most, omega arith, stands)) }; desk = desk };
            }) on loop in
            let few = s.ready.client.is.1 in
            (few.0, few.1, record { core = s.ready.client.core; there = s.ready.client.there; is = few.2 })

        pub drawn_there : (ahead now : ℕ) (v : World) (ret : Answer) → HasLastSent sent client.core → IsQueued plan request ahead w → IsNext until position now → time_after position.sent cadence ≤ now → IsStep (Draw now) w ret v → IsDrawOf plan request ahead w ret v
        drawn_there ahead now v ret last behind next late step =
            let s = waiting plan old may request wanted until (Asks wanted) (Held wanted) (do_ask wanted) range HasLastSent (λ n x y is g. grown_last n x y is g)
            (λ n at x y given early on_phase not_given is d. last_goes n at x y given early on_phase is d) third three w (requested made sent) position pending
            (record {
              before = before;
              ready = record { client = record { core = client.core; there = client.there; is = (client.is, last) }; desk = desk };
            }) on loop in
            let core = s.ready.client.core in
            let same = same_core (control_at plan.client.transport []) behind.core core w.client behind.there s.ready.client.there in
            let stands = subst (λ (x : Protocol). IsQueuedAfter request ahead x) same behind.is in
            let d = draws_on (control_at plan.client.transport []) w v core now ret s.ready.client.there (passes now until client_end next.early range) step in
            drawn_so plan request ahead now w v ret core d.core s.ready.client.there d.there d.by_draw
            (drawn_in_time request ahead core stands now d.by_draw.given d.core (not_resting position.sent now core (s.ready.client.is.0.speaks.settings.pace ∙ s.ready.client.is.0.speaks.settings.usual.pace) s.ready.client.is.1 late) d.by_draw.transmitted)

-- ---- the call that makes it

module _ (plan : Plan) (old two : World) (address : SocketAddr) (has : HasAllocated plan old address two) (speaks : HasClient plan [] has.between (λ p. Speaks plan.client old.desk.auth.realm address p)) where
  abbrev pub here : Protocol
  here = established.p plan old two address has speaks

  speaking : Speaks plan.client old.desk.auth.realm address here
  speaking = (established.ready plan old two address has speaks).client.is

  pub of_it : (Is : Protocol → Type 0) → HasClient plan [] two Is → Is here
  of_it = established.of_it plan old two address has speaks

  -- The server core has its settings still.
  pub keeps_two : KeepsSettings plan old two.desk
  keeps_two = keeps_run plan old has.may has.second has.between two has.again (keeps_run plan old has.may has.first old has.between has.run (keeps_first plan old has.may))

  module _ (three : World) (made : ℕ) (request : List ℕ) (beyond : ℕ) (Counts : ℕ → Type 0) (holds_on : HasClient plan [] two (λ p. AreHeldBeyond beyond p.allocations)) (counted : HasClient plan [] two (λ p. Counts p.resends)) (is : IsRequestOf two three request) where
    -- The request of the call is awaited, and queued last.
    pub record IsCalledFor (wanted : Wanted) : Type 0 where
      pub after : Protocol
      pub there : three.client ≡ Some (over (control_at plan.client.transport []) after)
      pub asks : (until : ℕ) → until < end_at made plan.client.config.waits → HasMadeRequest plan.client old.desk.auth.realm address wanted request until beyond Counts after
      pub stands : IsQueuedAfter request (length here.queue) after
      pub grown : IsGrown here after

    pub permission_called : (transport : TransportType) (ip : IpAddr) → IsStep (Call (call.CreatePermission transport ip) made) two answer.Done three → IsCalledFor (APermission ip)
    permission_called transport ip step =
        let so = established.permission_so plan old two address has speaks transport ip made in
        let a = established.requested_done plan old two address has speaks three (call.CreatePermission transport ip) made (λ r q. IsPermissionReported r transport ip here made q) so step in
        let one = established.own_made plan old two address has speaks three (call.CreatePermission transport ip) made (λ r q. IsPermissionReported r transport ip here made q) so request a is in
        let m = made_so plan.client old.desk.auth.realm address here speaking transport ip made a.after a.reported in
        record {
          after = a.after;
          there = a.there;
          asks = λ until early. subst (λ (r : List ℕ). HasMadeRequest plan.client old.desk.auth.realm address (APermission ip) r until beyond Counts a.after) (sym (own_permission plan.client old.desk.auth.realm address here speaking transport ip made a.after m.0 m.1 request one))
              (asks plan.client old.desk.auth.realm address here speaking transport ip made a.after m.0 m.1 until beyond Counts (of_it (λ p. AreHeldBeyond beyond p.allocations) holds_on) early (of_it (λ p. Counts p.resends) counted));
          stands = permission_stands plan.client old.desk.auth.realm address here speaking transport made a.after request one ip a.reported;
          grown = permission_queue here made transport ip (Ok tt) a.after (λ e. Prim.cc e) a.reported;
        }

    pub channel_called : (transport : TransportType) (peer : SocketAddr) → IsStep (Call (call.BindChannel transport peer) made) two answer.Done three → (channel : ℕ) × IsCalledFor (AChannel channel peer)
    channel_called transport peer step =
        let so = established.channel_so plan old two address has speaks transport peer made in
        let a = established.requested_done plan old two address has speaks three (call.BindChannel transport peer) made (λ r q. IsBindReported r transport peer here made q) so step in
        let one = established.own_made plan old two address has speaks three (call.BindChannel transport peer) made (λ r q. IsBindReported r transport peer here made q) so request a is in
        let m = bound plan.client old.desk.auth.realm address here speaking transport peer made a.after a.reported in (
          m.channel,
          record {
            after = a.after;
            there = a.there;
            asks = λ until early. subst (λ (r : List ℕ). HasMadeRequest plan.client old.desk.auth.realm address (AChannel m.channel peer) r until beyond Counts a.after) (sym (own_channel plan.client old.desk.auth.realm address here speaking transport peer made a.after m request one))
                (asks_channel plan.client old.desk.auth.realm address here speaking transport peer made a.after m until beyond Counts (of_it (λ p. AreHeldBeyond beyond p.allocations) holds_on) early (of_it (λ p. Counts p.resends) counted));
            stands = channel_stands plan.client old.desk.auth.realm address here speaking transport made a.after request one peer a.reported;
            grown = bind_queue here made transport peer (Ok tt) a.after (λ e. Prim.cc e) a.reported;
          },
        )

    pub called_for : (what : ClientCall) → IsRequestCall what → IsStep (Call what made) two answer.Done three → (wanted : Wanted) × IsCallFor what wanted × IsCalledFor wanted
    called_for (call.CreatePermission transport ip) asks_so step = (APermission ip, refl, permission_called transport ip step)
    called_for (call.BindChannel transport peer) asks_so step = (let a = channel_called transport peer step in (AChannel a.0 peer, (a.0, refl), a.1))
    called_for _ asks_so step = absurd asks_so

    -- The server core has its settings still.
    pub keeps_three : (what : ClientCall) → IsStep (Call what made) two answer.Done three → KeepsSettings plan old three.desk
    keeps_three what step = keeps_on plan old has.may (Call what made) two three answer.Done step keeps_two

    -- The last message came no later.
    pub last_three : (wanted : Wanted) (a : IsCalledFor wanted) (sent : ℕ) → HasClient plan [] two (λ p. HasLastSent sent p) → HasLastSent sent a.after
    last_three wanted a sent last = grown_last sent here a.after (of_it (λ p. HasLastSent sent p) last) a.grown
