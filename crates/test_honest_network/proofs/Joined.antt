-- A client that has an allocation over TCP requests a connection. The run is a script of the theorem on a
-- challenged CONNECTION_BIND.
use Rattle.std.proofs.Common.{◌≡◌, ◌≢◌, ◌++◌, ◌≤◌, ℕ, List, [], ◌∷◌, Option, Some, None, refl, sym, ap, ◌∙◌, subst, arith, inl}
use Rattle.std.specs.Prelude.{IfOk, IsSome, IsTrue, Bool, Result, Ok, Err}
use Rattle.std.specs.Net.Socket.{socket_ip}
use Rattle.std.proofs.lemmas.List.{append-nil}
use Rattle.std.specs.declared.net.socket_addr.SocketAddr.{SocketAddr}
use Rattle.stun_types_wire.specs.Attributes.{kind_at}
use Rattle.stun_types_wire.specs.declared.class.MessageClass.TheVariants.{Success}
use Rattle.stun_types_wire.specs.Types.{class_of}
use Rattle.stun_types_base.specs.declared.transport.TransportType.TheVariants.{Tcp}
use Rattle.turn_client_proto.specs.StunProtoClient.Challenges.{ChallengeFields as ChallengeFieldsOf, challenge_visible}
use Rattle.turn_client_proto_api.specs.Sent.{Sent, sent_of}
use Rattle.turn_desk_progress_laws.specs.TurnClientProtoHandshakeLaws.Driving.{client_end}
use Rattle.turn_desk_progress_laws.specs.Promises.{IsFresh}
use Rattle.turn_desk_progress_laws.specs.Scripts.{Done, IsScript, Plan, Start}
use Rattle.turn_desk_progress_laws.specs.Joining.{KeepsOwn}
use Rattle.turn_desk_progress_laws.specs.Linked.{IsOverTcp}
use Rattle.turn_desk_progress_laws.specs.Links.{Answered, AskConnect, AskTransmitted, AskPermission, Requested, Binding, Bound, Called, DrawBind, DrawConnect, DrawPermission, Transmitted, EndBind, GiveConnect, GivePermission, GrantBind, GrantConnect, GrantPermission, Held, IsTimelyLink, Known, Link, Links, Looks, Opened, Opens, Permitted, Permitting, PollsKnown, Reached, Reported, Waiting}
use Rattle.turn_desk_progress_laws.specs.Rebinding.{At, GiveTurn, Goes, HasRelinked, IsRelinkScript, Relinks, Retry, Turned, TurnsBind}
use Rattle.turn_desk_event.specs.declared.answer.Answer.{Answer}
use Rattle.turn_desk_event.specs.declared.answer.Answer.TheVariants as answer
use Rattle.turn_desk_core.specs.declared.decision.Decision.TheVariants as by
use Rattle.turn_desk_event.specs.declared.event.ClientCall.TheVariants.{AllocatedTcpSocket, CreatePermission, Poll, PollEvent, TcpConnect}
use Rattle.turn_desk_event.specs.declared.event.Event.{Event}
use Rattle.turn_desk_event.specs.declared.event.Event.TheVariants.{Call, Draw, ToClient, ToDesk}
use Rattle.turn_desk_world.specs.Model.{World}
use Rattle.turn_desk_world.specs.Runs.{IsRun}
use Rattle.test_honest_network.specs.Connections.{HasBound, IsRequested, IsGone, IsOpened, link_of}
use Rattle.test_driver.specs.Driving.{Happened}
use Rattle.test_honest_network.specs.Simulations.{HasSimulated}
use Rattle.test_honest_network.specs.Replies.{HasReplied, IsTaken}
use Rattle.test_honest_network.specs.declared.tcp_binding.TheConstants.{AGAIN, REQUESTED, MADE, NUMBER, TURNED}
use Rattle.test_honest_network.specs.declared.simulation.Outcome.TheVariants as outcome
use Rattle.test_honest_network.specs.declared.simulation.TheConstants.{LIFETIME, SECOND}
use Rattle.test_honest_network.specs.declared.replying.Reply.TheVariants as reply

-- ---- replies

some_bytes : (bytes : List ℕ) → class_of (kind_at bytes) ≡ Success → bytes ≢ []
some_bytes bytes success = λ none. Prim.cc (sym (ap (λ (l : List ℕ). class_of (kind_at l)) none) ∙ success)

reported_in : (visible : Option ChallengeFieldsOf) → IsSome visible → (reported : ChallengeFieldsOf) × (visible ≡ Some reported)
reported_in (Some reported) is = (reported, refl)
reported_in None is = absurd (Prim.cc is)

some_reported : (bytes : List ℕ) (reported : ChallengeFieldsOf) → challenge_visible bytes ≡ Some reported → bytes ≢ []
some_reported bytes reported is = λ none. Prim.cc (sym (ap challenge_visible none) ∙ is)

-- ---- the theorem

abbrev pub Law : Type 0
Law = (plan : Plan) (old one new : World) (first pairs : List (Event × Answer)) (request : Sent) (address : SocketAddr) (lifetime : ℕ) (reply : List ℕ) (link : Link) (progress : Retry) → IsFresh plan old → IsOverTcp plan
    → KeepsOwn link old.desk.auth → IsRun old first one → IsScript plan Start first (Done request address lifetime reply) → IsTimelyLink plan lifetime link → IsRun one pairs new → IsRelinkScript plan lifetime link (At Held) pairs progress
    → HasRelinked plan old address link progress new

-- ---- runs that lead from one position to another

module _ (plan : Plan) (peer local : SocketAddr) where
  abbrev link : Link
  link = link_of peer local

  pub record Leads (old : World) (from : Retry) (new : World) (to : Retry) : Type 0 where
    pub pairs : List (Event × Answer)
    pub run : IsRun old pairs new
    pub script : IsRelinkScript plan LIFETIME link from pairs to

  one : (old new : World) (from to : Retry) (event : Event) (ret : Answer) → Happened event old ret new → Relinks plan LIFETIME link from event ret to → Leads old from new to
  unfolding IsRelinkScript
  one old new from to event ret step follows = record { pairs = (event, ret) ∷ []; run = step; script = (to, follows, refl) }

  goes : (old new : World) (from to : Reached) (event : Event) (ret : Answer) → Happened event old ret new → Links plan LIFETIME link from event ret to → Leads old (At from) new (At to)
  goes old new from to event ret step follows = one old new (At from) (At to) event ret step (Goes from to refl follows refl)

  run_on : (old middle new : World) (pairs others : List (Event × Answer)) → IsRun old pairs middle → IsRun middle others new → IsRun old (pairs ++ others) new
  unfolding IsRun
  run_on old middle new [] others first second = subst (λ (w : World). IsRun w others new) first second
  run_on old middle new (pair ∷ pairs) others first second = (first.0, first.1, run_on first.0 middle new pairs others first.2 second)

  script_on : (from middle to : Retry) (pairs others : List (Event × Answer)) → IsRelinkScript plan LIFETIME link from pairs middle → IsRelinkScript plan LIFETIME link middle others to → IsRelinkScript plan LIFETIME link from (pairs ++ others) to
  unfolding IsRelinkScript
  script_on from middle to [] others first second = subst (λ (p : Retry). IsRelinkScript plan LIFETIME link p others to) first second
  script_on from middle to (pair ∷ pairs) others first second = (first.0, first.1, script_on first.0 middle to pairs others first.2 second)

  then_on : (old middle new : World) (from at to : Retry) → Leads old from middle at → Leads middle at new to → Leads old from new to
  then_on old middle new from at to first second = record {
    pairs = first.pairs ++ second.pairs;
    run = run_on old middle new first.pairs second.pairs first.run second.run;
    script = script_on from at to first.pairs second.pairs first.script second.script;
  }

  on : (old middle new : World) (from at to : Reached) → Leads old (At from) middle (At at) → Leads middle (At at) new (At to) → Leads old (At from) new (At to)
  on old middle new from at to first second = then_on old middle new (At from) (At at) (At to) first second

  -- ---- a permission, and the connection

  permitted : (old new : World) → IsRequested (CreatePermission Tcp (socket_ip peer)) REQUESTED by.Grant old new → Leads old (At Held) new (At Permitted)
  permitted old new is =
      let r = is.other in
      let b = r.brought in
      let g = b.taken in
      let q = sent_of r.sent in
      let bytes = b.answered.items in
      on old is.middle new Held Requested Permitted (goes old is.middle Held Requested (Call (CreatePermission Tcp (socket_ip peer)) REQUESTED) answer.Done is.one (AskPermission refl refl refl))
      (on is.middle r.transmitted new Requested (AskTransmitted q) Permitted (goes is.middle r.transmitted Requested (AskTransmitted q) (Draw REQUESTED) (answer.Transmit r.sent) r.step (DrawPermission refl refl refl))
      (on r.transmitted b.replied new (AskTransmitted q) (Permitting q bytes []) Permitted
      (goes r.transmitted b.replied (AskTransmitted q) (Permitting q bytes []) (ToDesk b.bytes r.sent.from REQUESTED by.Grant b.seed) (answer.Reply b.answered) b.requested (GrantPermission q b.bytes b.answered by.Grant b.seed refl b.same refl refl g.is_kind refl))
      (goes b.replied new (Permitting q bytes []) Permitted (ToClient b.answered r.sent.to r.sent.from REQUESTED) g.ret g.given (GivePermission q bytes [] [] b.answered refl (some_bytes bytes g.is_kind, sym (append-nil bytes)) refl refl))))

  connected : (old new : World) → IsRequested (TcpConnect peer) MADE (by.Connect NUMBER) old new → Leads old (At Permitted) new (At Known)
  connected old new is =
      let r = is.other in
      let b = r.brought in
      let g = b.taken in
      let q = sent_of r.sent in
      let bytes = b.answered.items in
      on old is.middle new Permitted Called Known (goes old is.middle Permitted Called (Call (TcpConnect peer) MADE) answer.Done is.one (AskConnect refl refl refl))
      (on is.middle r.transmitted new Called (Transmitted q) Known (goes is.middle r.transmitted Called (Transmitted q) (Draw MADE) (answer.Transmit r.sent) r.step (DrawConnect refl refl refl))
      (on r.transmitted b.replied new (Transmitted q) (Reported q bytes []) Known
      (goes r.transmitted b.replied (Transmitted q) (Reported q bytes []) (ToDesk b.bytes r.sent.from MADE (by.Connect NUMBER) b.seed) (answer.Reply b.answered) b.requested (GrantConnect q b.bytes b.answered b.seed refl b.same refl refl g.is_kind refl))
      (goes b.replied new (Reported q bytes []) Known (ToClient b.answered r.sent.to r.sent.from MADE) g.ret g.given (GiveConnect q bytes [] [] b.answered refl (some_bytes bytes g.is_kind, sym (append-nil bytes)) refl refl))))

  -- ---- its socket

  in_range : MADE ≤ client_end
  in_range = omega arith

  taken : (old new : World) → IsTaken MADE old new → Leads old (At Known) new (At Known)
  taken old new is = goes old new Known Known (Call PollEvent MADE) is.ret is.step (Looks PollEvent MADE tt refl refl)

  module _ (apart : local ≢ plan.client.here) where
    opened : (old new : World) → IsOpened peer local MADE old new → Leads old (At Known) new (At (Opened MADE))
    opened old new is =
        let second = is.other in
        let third = second.other in
        let p = third.one in
        let waiting = Waiting p.number p.socket p.peer in
        on old is.middle new Known Known (Opened MADE) (taken old is.middle is.one)
        (on is.middle second.middle new Known Known (Opened MADE) (taken is.middle second.middle second.one)
        (on second.middle third.middle new Known waiting (Opened MADE) (goes second.middle third.middle Known waiting (Call Poll MADE) (answer.Socket p.number p.socket p.peer) p.step (PollsKnown MADE (inl refl) in_range refl refl))
        (goes third.middle new waiting (Opened MADE) (Call (AllocatedTcpSocket NUMBER peer (Some local)) MADE) answer.Done third.other (Opens p.number MADE p.socket p.peer refl apart in_range refl refl))))

  -- ---- its binding

  granted : (old new : World) → HasReplied AGAIN by.Grant reply.Success old new → Leads old (At (Opened TURNED)) new (At (Bound []))
  granted old new r =
      let b = r.brought in
      let g = b.taken in
      let q = sent_of r.sent in
      let bytes = b.answered.items in
      on old r.transmitted new (Opened TURNED) (Binding AGAIN q) (Bound []) (goes old r.transmitted (Opened TURNED) (Binding AGAIN q) (Draw AGAIN) (answer.Transmit r.sent) r.step (DrawBind TURNED AGAIN refl (omega arith) (omega arith) refl refl))
      (on r.transmitted b.replied new (Binding AGAIN q) (Answered AGAIN q bytes []) (Bound [])
      (goes r.transmitted b.replied (Binding AGAIN q) (Answered AGAIN q bytes []) (ToDesk b.bytes r.sent.from AGAIN by.Grant b.seed) (answer.Reply b.answered) b.requested (GrantBind AGAIN AGAIN q b.bytes b.answered by.Grant b.seed refl b.same refl refl g.is_kind refl))
      (goes b.replied new (Answered AGAIN q bytes []) (Bound []) (ToClient b.answered r.sent.to r.sent.from AGAIN) g.ret g.given (EndBind AGAIN AGAIN q bytes [] [] b.answered refl (some_bytes bytes g.is_kind) (sym (append-nil bytes)) (omega arith) refl refl)))

  generated_so : (old transmitted : World) (sent : _) → Happened (Draw TURNED) old (answer.Transmit sent) transmitted → Leads old (At (Opened MADE)) transmitted (At (Binding TURNED (sent_of sent)))
  generated_so old transmitted sent step = goes old transmitted (Opened MADE) (Binding TURNED (sent_of sent)) (Draw TURNED) (answer.Transmit sent) step (DrawBind MADE TURNED refl (omega arith) (omega arith) refl refl)

  -- The client's message is sent from the socket, by the theorem.
  challenged : (old new : World) (r : HasReplied TURNED by.Grant reply.Challenge old new) → r.sent.from ≡ local → Leads r.transmitted (At (Binding TURNED (sent_of r.sent))) new (At (Opened TURNED))
  challenged old new r from =
      let b = r.brought in
      let g = b.taken in
      let q = sent_of r.sent in
      let bytes = b.answered.items in
      let t = reported_in (challenge_visible bytes) g.is_kind in
      then_on r.transmitted b.replied new (At (Binding TURNED q)) (Turned TURNED q bytes []) (At (Opened TURNED))
      (one r.transmitted b.replied (At (Binding TURNED q)) (Turned TURNED q bytes []) (ToDesk b.bytes r.sent.from TURNED by.Grant b.seed) (answer.Reply b.answered) b.requested
      (TurnsBind TURNED TURNED q b.bytes b.answered t.0 by.Grant b.seed refl b.same (ap (λ (a : SocketAddr). ToDesk b.bytes a TURNED by.Grant b.seed) from) refl t.1 refl))
      (one b.replied new (Turned TURNED q bytes []) (At (Opened TURNED)) (ToClient b.answered r.sent.to r.sent.from TURNED) g.ret g.given
      (GiveTurn TURNED TURNED q bytes [] [] b.answered refl (some_reported bytes t.0 t.1) (sym (append-nil bytes)) (omega arith) refl refl))

-- ---- all of it

module _ (law : Law) (plan : Plan) (address peer local : SocketAddr) (old : World) (fresh : IsFresh plan old) (stream : IsOverTcp plan) (keeps : KeepsOwn (link_of peer local) old.desk.auth) (apart : local ≢ plan.client.here)
    (second : plan.second ≡ SECOND) where
  timely : IsTimelyLink plan LIFETIME (link_of peer local)
  timely = subst (λ (n : ℕ). IsTimelyLink (record plan { second = n }) LIFETIME (link_of peer local)) (sym second) (record {
    requested = omega arith;
    permitted = omega arith;
    following = omega arith;
    soon = omega arith;
    before_refresh = omega arith;
    called = omega arith;
    apart = omega arith;
    in_range = omega arith;
  })

  pub bound : (one new : World) → HasSimulated plan address old outcome.Allocated one → IsGone peer local one new → HasBound plan address (link_of peer local) old new
  bound one new met is =
      let request = met.index_is.0 in
      let answered = met.index_is.1 in
      let script = subst (λ (p : _). IsScript plan Start met.pairs p) met.index_is.2 met.script in
      let next = is.other in
      let last = next.other in
      let r = last.other.one in
      let to_known = on plan peer local one is.middle next.middle Held Permitted Known (permitted plan peer local one is.middle is.one) (connected plan peer local is.middle next.middle next.one) in
      let to_open = on plan peer local one next.middle last.middle Held Known (Opened MADE) to_known (opened plan peer local apart next.middle last.middle last.one) in
      let to_bind = on plan peer local one last.middle r.transmitted Held (Opened MADE) (Binding TURNED (sent_of r.sent)) to_open (generated_so plan peer local last.middle r.transmitted r.sent r.step) in
      let says = law plan old one r.transmitted met.pairs to_bind.pairs request address LIFETIME answered (link_of peer local) (At (Binding TURNED (sent_of r.sent))) fresh stream keeps met.run script timely to_bind.run to_bind.script in
      let to_again = on plan peer local one r.transmitted last.other.middle Held (Binding TURNED (sent_of r.sent)) (Opened TURNED) to_bind (challenged plan peer local last.middle last.other.middle r says.0.from) in
      let all = on plan peer local one last.other.middle new Held (Opened TURNED) (Bound []) to_again (granted plan peer local last.other.middle new last.other.other) in
      record {
        fresh = fresh;
        stream = stream;
        keeps = keeps;
        timely = timely;
        one = one;
        first = met.pairs;
        pairs = all.pairs;
        request = request;
        reply = answered;
        met = met.run;
        script = script;
        run = all.run;
        links = all.script;
        promised = law plan old one new met.pairs all.pairs request address LIFETIME answered (link_of peer local) (At (Bound [])) fresh stream keeps met.run script timely all.run all.script;
      }

  pub linked : {E : Type 0} (one new : World) → HasSimulated plan address old outcome.Allocated one → (result : Result Bool E) → IfOk result (λ is. IsTrue is → IsGone peer local one new)
      → IfOk result (λ is. IsTrue is → HasBound plan address (link_of peer local) old new)
  linked one new met (Ok is) goes = λ yes. bound one new met (goes yes)
  linked one new met (Err error) goes = tt
