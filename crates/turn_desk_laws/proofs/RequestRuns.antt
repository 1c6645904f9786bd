-- A request, from the call to the reply, in a simulation.
use Rattle.std.proofs.Common.{◌≡◌, ◌≢◌, ℕ, ◌≤◌, ◌^◌, arith, Bool, true, false, List, [], ◌∷◌, ◌++◌, Option, Some, None, refl, sym, ap, ◌∙◌, subst, ◌⊎◌, inl, inr}
use Rattle.std.specs.Prelude.{Ok, Err, Vec}
use Rattle.std.specs.declared.alloc.Global.{Global}
use Rattle.std.specs.declared.net.ip_addr.IpAddr.{IpAddr}
use Rattle.std.specs.declared.net.socket_addr.SocketAddr.{SocketAddr}
use Rattle.turn_desk_core.specs.StunTypesWire.Attributes.{kind_at}
use Rattle.turn_desk_core.specs.StunTypesWire.Grammar.{number_at, refusal}
use Rattle.turn_desk_core.specs.StunTypesWire.declared.class.MessageClass.TheVariants.{Error, Success}
use Rattle.turn_desk_core.specs.StunTypesWire.Types.{class_of, method_of, type_of}
use Rattle.turn_desk_core.specs.StunTypesBase.declared.transport.TransportType.{TransportType}
use Rattle.turn_desk_core.specs.StunTypesBase.declared.transport.TransportType.TheVariants.{Tcp, Udp}
use Rattle.turn_client_proto_messages.specs.Requests.{request_method}
use Rattle.turn_client_proto_messages.specs.StunProtoClient.Challenges.{ChallengeFields, challenge_visible}
use Rattle.turn_client_proto_messages.specs.TurnRuns.Indications.{is_indication}
use Rattle.turn_client_proto_api.specs.Payloads.{PeerPayload}
use Rattle.turn_client_proto_api.specs.Sent.{Sent, sent_of}
use Rattle.turn_client_proto_api.specs.TurnTypesFrame.Streams.{alive}
use Rattle.turn_client_proto_api.specs.declared.answer.TurnPollRet.TheVariants as poll
use Rattle.turn_client_proto_handshake_laws.specs.Coming.{IsPartOf}
use Rattle.turn_client_proto_handshake_laws.specs.Core.Receiving.{IsProcessed}
use Rattle.turn_client_proto_handshake_laws.specs.Core.declared.protocol.Phase.TheVariants.{Authenticated}
use Rattle.turn_client_proto_handshake_laws.specs.Driving.{client_end}
use Rattle.turn_client_proto_handshake_laws.specs.Stages.{IsOf}
use Rattle.turn_client_proto_progress_laws.specs.Asking.{APermission, AChannel, Wanted, request_for}
use Rattle.turn_client_proto_progress_laws.specs.Holding.{IsGrantOf, IsOwnRequest}
use Rattle.turn_client_proto_progress_laws.proofs.TcpBinding.Tools.{challenges_respond}
use Rattle.turn_client_proto_progress_laws.proofs.Asking.Chunks.{IsTakenFrom, Nothing as TakenNothing, Raw, nothing_stored, taken_from}
use Rattle.turn_client_proto_step_laws.specs.Recv.ClientState.{ClientState, Protocol}
use Rattle.turn_client_proto_step_laws.specs.Recv.Control.{Control, Datagrams, Open}
use Rattle.turn_client_proto_step_laws.specs.Recv.Receipts.{IsWaitingGiven}
use Rattle.turn_client_proto_step_laws.specs.Timers.Drawing.{IsTransmitted}
use Rattle.turn_desk_world_laws.specs.World.Calls.{IsBindReported, IsCallReported, IsCalled, IsPermissionReported, IsPolledAs, IsTransmittedAs}
use Rattle.turn_desk_world_laws.specs.World.Desks.{IsDeskAnswered, words_of}
use Rattle.turn_desk_world_laws.specs.World.Model.{World}
use Rattle.turn_desk_world_laws.specs.World.Runs.{IsOfClient, IsRun, IsStep}
use Rattle.turn_desk_event.specs.declared.answer.Answer.{Answer}
use Rattle.turn_desk_event.specs.declared.answer.Answer.TheVariants as answer
use Rattle.turn_desk_event.specs.declared.answer.Refusal.TheVariants.{BindChannel as BindRefused, CreatePermission as PermissionRefused}
use Rattle.turn_desk_core.specs.declared.decision.Decision.{Decision}
use Rattle.turn_desk_event.specs.declared.event.ClientCall.{ClientCall}
use Rattle.turn_desk_event.specs.declared.event.ClientCall.TheVariants as call
use Rattle.turn_desk_event.specs.declared.event.Event.{Event}
use Rattle.turn_desk_event.specs.declared.event.Event.TheVariants.{Call, Draw, ToClient, ToDesk}
use Rattle.turn_desk_progress_laws.specs.Asking.{IsOwnCall}
use Rattle.turn_desk_progress_laws.specs.Loops.{Gives, MayBegin, sent_after}
use Rattle.turn_desk_progress_laws.specs.Promises.{HasClient, control_at, over}
use Rattle.turn_desk_progress_laws.specs.Scripts.{BringsOn, IsLook, Plan}
use Rattle.turn_desk_progress_laws.specs.Standing.{IsOfSettings}
use Rattle.turn_desk_progress_laws.proofs.Challenged as challenges
use Rattle.turn_desk_progress_laws.proofs.Calls.{DoesWait, IsActed, IsActedOn, Transmitted as ActsTransmitted, calls, draws, receives}
use Rattle.turn_desk_progress_laws.proofs.Clients.{IsLooked, Still, Took, done, draws as draws_at, looks, same_desk, stays, within}
use Rattle.turn_desk_progress_laws.proofs.Coming.{none_yet}
use Rattle.turn_desk_progress_laws.proofs.Desks.{IsDeskOf, grants_own}
use Rattle.turn_desk_progress_laws.proofs.Following.{IsReady, at_desk, placed}
use Rattle.turn_desk_progress_laws.proofs.Looping.{passes, sent_sooner}
use Rattle.turn_desk_progress_laws.proofs.Successes.{IsMethod}
use Rattle.turn_desk_progress_laws.proofs.RequestComing.{IsBrought, IsStoredOf, brings, nothing_of, part_of_one}
use Rattle.turn_desk_laws.specs.RenewalStages.{KeepsSettings}
use Rattle.turn_desk_laws.specs.RequestLoops.{AtDesk, Brings, Calls, Challenged, Challenges, Draws, Grants, Granted, Got, IsAskingLoop, IsAwaited, IsDrawTo, IsGiven, IsNext, Leads, Pending, RequestPosition, Receives, Stage, Transmitted, Turns, brought}
use Rattle.turn_desk_laws.proofs.RenewalWorlds.{keeps_on}
use Rattle.turn_client_proto_progress_laws.proofs.RequestChallenged.{no_indication}
use Rattle.turn_desk_laws.proofs.RequestQueue.{IsGrown, bind_queue, permission_queue, polled_queue, same_queue, sent_or, taken_queue, unchanged_queue}

-- ---- what is known of a client that awaits a response

pub record DoAsk (plan : Plan) (realm request : List ℕ) (wanted : Wanted) (until : ℕ) (Asks Held : Protocol → Type 0) : Type 0 where
  pub of : (p : Protocol) → Asks p → IsOf plan.client p
  pub on : (p : Protocol) → Asks p → p.phase ≡ Authenticated
  pub own : (p : Protocol) → Asks p → IsOwnRequest plan.client realm wanted request
  pub acts : (p q : Protocol) (at : ℕ) → at ≤ until → Asks p → IsActed p at q → Asks q
  pub waits : (head : List ℕ) (p : Protocol) → Asks p → IsStoredOf plan.client.transport head → DoesWait (control_at plan.client.transport head) p Asks
  pub holds : (reply : List ℕ) (p q : Protocol) (handled : Bool) (now : ℕ) → now ≤ until → Asks p → IsGrantOf plan.client realm request reply → IsProcessed p reply now handled q → Held q
  pub rests : (p : Protocol) → Held p → DoesWait (control_at plan.client.transport []) p Held

-- ---- what an event is for the client's queue

-- A draw, by what `poll_transmit` returned.
pub record IsDrawnAs (p : Protocol) (at : ℕ) (ret : Answer) (q : Protocol) : Type 0 where
  pub given : Option Sent
  pub transmitted : IsTransmitted p at given q
  pub shown : (s : Sent) → given ≡ Some s → Gives ret (λ x. x ≡ s)
  pub sent_is : (before : ℕ) → sent_after at ret before ≡ sent_or at given before

-- What holds of the message holds of the result.
pub gives_so : (ret : Answer) (s : Sent) (Is : Sent → Type 0) → Gives ret (λ x. x ≡ s) → Is s → Gives ret Is
gives_so (answer.Transmit t) s Is same it = subst Is (sym same) it
gives_so _ s Is same it = absurd same

drawn_as : (p q : Protocol) (at : ℕ) (ret : Answer) → IsTransmittedAs ret p at q → IsDrawnAs p at ret q
unfolding IsTransmittedAs
drawn_as p q at (answer.Transmit t) is = record { given = Some (sent_of t); transmitted = is; shown = λ s same. Prim.cc same; sent_is = λ before. refl }
drawn_as p q at answer.Nothing is = record { given = None; transmitted = is; shown = λ s same. absurd (Prim.cc same); sent_is = λ before. refl }
drawn_as p q at _ is = absurd is

pub record IsDrawnOn (c : Control) (p : Protocol) (at : ℕ) (ret : Answer) (w v : World) : Type 0 where
  pub core : Protocol
  pub there : v.client ≡ Some (over c core)
  pub by_draw : IsDrawnAs p at ret core
  pub of : IsOfClient w v

pub draws_on : (c : Control) (w v : World) (p : Protocol) (at : ℕ) (ret : Answer) → w.client ≡ Some (over c p) → at ≤ client_end → IsStep (Draw at) w ret v → IsDrawnOn c p at ret w v
draws_on c w v p at ret there early step =
    let d = draws_at c w v p at ret there early step in
    record { core = d.core; there = d.there; by_draw = drawn_as p d.core at ret d.transmitted; of = step.1 }

polled_grown : (p q : Protocol) (at : ℕ) (ret : Answer) → p.phase ≡ Authenticated → IsPolledAs ret p at q → IsGrown p q
polled_grown p q at (answer.Wait time) on is = polled_queue p at on (poll.WaitUntil time) q (λ e. Prim.cc e) is
polled_grown p q at (answer.Socket id socket peer) on is = polled_queue p at on (poll.AllocateTcpSocket id socket peer) q (λ e. Prim.cc e) is
polled_grown p q at (answer.Close local remote) on is = polled_queue p at on (poll.TcpClose local remote) q (λ e. Prim.cc e) is
polled_grown p q at answer.Closed on is = polled_queue p at on poll.Closed q (λ e. Prim.cc e) is
polled_grown p q at _ on is = absurd is

permission_grown : (transport : TransportType) (ip : IpAddr) (p q : Protocol) (at : ℕ) (ret : Answer) → IsPermissionReported ret transport ip p at q → IsGrown p q
permission_grown transport ip p q at answer.Done is = permission_queue p at transport ip (Ok tt) q (λ e. Prim.cc e) is
permission_grown transport ip p q at (answer.Refused (PermissionRefused error)) is = permission_queue p at transport ip (Err error) q (λ e. is.1 (Prim.cc e)) is.0
permission_grown transport ip p q at _ is = absurd is

bound_grown : (transport : TransportType) (peer : SocketAddr) (p q : Protocol) (at : ℕ) (ret : Answer) → IsBindReported ret transport peer p at q → IsGrown p q
bound_grown transport peer p q at answer.Done is = bind_queue p at transport peer (Ok tt) q (λ e. Prim.cc e) is
bound_grown transport peer p q at (answer.Refused (BindRefused error)) is = bind_queue p at transport peer (Err error) q (λ e. is.1 (Prim.cc e)) is.0
bound_grown transport peer p q at _ is = absurd is

looked_grown : (p q : Protocol) (ret : Answer) → IsLooked p ret q → IsGrown p q
looked_grown p q ret (Took event taken said) = taken_queue p event q taken
looked_grown p q ret (Still same said) = unchanged_queue p q same

other_grown : (c : Control) (what : ClientCall) (p : Protocol) (q : ClientState) (at : ℕ) (ret : Answer) → p.phase ≡ Authenticated → IsOwnCall what → IsCallReported what ret (over c p) at q → (IsGrown p q.core × (q.control ≡ c)) ⊎ IsLook what
unfolding IsCallReported IsCalled
other_grown c call.Poll p q at ret on own is = inl (polled_grown p q.core at ret on is.0, is.1)
other_grown c (call.CreatePermission transport ip) p q at ret on own is = inl (permission_grown transport ip p q.core at ret is.0, is.1)
other_grown c (call.BindChannel transport peer) p q at ret on own is = inl (bound_grown transport peer p q.core at ret is.0, is.1)
other_grown c _ p q at ret on own is = inr own

pub record IsGrownOn (c : Control) (p : Protocol) (w v : World) : Type 0 where
  pub core : Protocol
  pub there : v.client ≡ Some (over c core)
  pub grown : IsGrown p core

pub grows_on : (c : Control) (w v : World) (p : Protocol) (what : ClientCall) (at : ℕ) (ret : Answer) → p.phase ≡ Authenticated → w.client ≡ Some (over c p) → IsOwnCall what → IsStep (Call what at) w ret v → IsGrownOn c p w v
grows_on c w v p what at ret on there own step =
    let d = done c at _ p w.client v.client ret there step.0 in
    elim d.outcome [
      | inl does ↦ elim (other_grown c what p d.after at ret on own does.1) [
        | inl is ↦ record { core = d.after.core; there = d.there ∙ ap Some (stays c d.after is.1); grown = is.0 }
        | inr look ↦ (let l = looks c w v p what at ret there look step in record { core = l.core; there = l.there; grown = looked_grown p l.core ret l.looked })
      ]
      | inr out ↦ record { core = p; there = d.there ∙ ap Some out.1; grown = unchanged_queue p p refl }
    ]

-- What waits is requested.
tcp_grown : (p : Protocol) (q : ClientState) → IsTakenFrom (over (Open (alive [])) p) q → IsGrown p q.core
tcp_grown p q (TakenNothing same) = unchanged_queue p q.core (ap (λ (x : ClientState). x.core) same)
tcp_grown p q (Raw after control) = same_queue p q.core (ap (λ (x : Protocol). x.queue) after) (ap (λ (x : Protocol). x.last_send) after)

wait_grown : (transport : TransportType) (p : Protocol) (at : ℕ) (given : Option PeerPayload) (q : ClientState) → IsWaitingGiven (over (control_at transport []) p) at given q → IsGrown p q.core
wait_grown Udp p at given q r = unchanged_queue p q.core r.1
wait_grown Tcp p at given q r = tcp_grown p q (taken_from (over (Open (alive [])) p) at given q [] nothing_stored refl r)

pub same_core : (c : Control) (p q : Protocol) (o : Option ClientState) → o ≡ Some (over c p) → o ≡ Some (over c q) → p ≡ q
same_core c p q o one other = (let same : over c p ≡ over c q = Prim.cc (sym one ∙ other) in ap (λ (k : ClientState). k.core) same)

-- ---- the methods of requests

is_method : (wanted : Wanted) → IsMethod (request_method (request_for wanted))
is_method (APermission ip) = record { error = refl; success = refl; method = refl }
is_method (AChannel channel peer) = record { error = refl; success = refl; method = refl }

error_so : (wanted : Wanted) → method_of (type_of Error (request_method (request_for wanted))) ≡ request_method (request_for wanted)
error_so (APermission ip) = refl
error_so (AChannel channel peer) = refl

-- ---- the request, from the call to the reply

module _ (plan : Plan) (old : World) (may : MayBegin plan old) (request : List ℕ) (wanted : Wanted) (until : ℕ) (Asks Held : Protocol → Type 0) (do_ask : DoAsk plan old.desk.auth.realm request wanted until Asks Held) (range : until ≤ client_end) where
  abbrev realm : List ℕ
  realm = old.desk.auth.realm

  -- The server core's reply is a challenge to the request, of the server core's settings.
  pub record IsChallenging (reply : List ℕ) : Type 0 where
    pub message : refusal reply ≡ None
    pub answers : is_indication (class_of (kind_at reply)) ≡ false
    pub number_is : number_at reply ≡ number_at request
    pub reported : ChallengeFields
    pub visible : challenge_visible reply ≡ Some reported
    pub of : IsOfSettings old.desk.auth reported

  -- These first bytes of it have come.
  pub record IsTurning (reply head : List ℕ) (w : World) : Type 0 where
    pub ready : IsReady plan realm head Asks w
    pub is : IsChallenging reply
    pub part : IsPartOf head reply

  pub record IsArriving (reply head : List ℕ) (w : World) : Type 0 where
    pub ready : IsReady plan realm head Asks w
    pub grant : IsGrantOf plan.client realm request reply
    pub part : IsPartOf head reply

  -- The state of the simulation at each stage.
  abbrev pub IsAtStage : Stage → World → Type 0
  IsAtStage Pending w = IsReady plan realm [] Asks w
  IsAtStage Transmitted w = IsReady plan realm [] Asks w
  IsAtStage (Granted reply head) w = IsArriving reply head w
  IsAtStage (Challenged reply head) w = IsTurning reply head w
  IsAtStage (Got reply) w = HasClient plan [] w Held

  abbrev pub head_of : Stage → List ℕ
  head_of Pending = []
  head_of Transmitted = []
  head_of (Granted reply head) = head
  head_of (Challenged reply head) = head
  head_of (Got reply) = []

  pub ready_of : (stage : Stage) (w : World) → IsAwaited stage → IsAtStage stage w → IsReady plan realm (head_of stage) Asks w
  ready_of Pending w awaits s = s
  ready_of Transmitted w awaits s = s
  ready_of (Granted reply head) w awaits s = s.ready
  ready_of (Challenged reply head) w awaits s = s.ready
  ready_of (Got reply) w awaits s = absurd awaits

  stage_of : (stage : Stage) (w v : World) → IsAwaited stage → IsAtStage stage w → IsReady plan realm (head_of stage) Asks v → IsAtStage stage v
  stage_of Pending w v awaits s ready = ready
  stage_of Transmitted w v awaits s ready = ready
  stage_of (Granted reply head) w v awaits s ready = record { ready = ready; grant = s.grant; part = s.part }
  stage_of (Challenged reply head) w v awaits s ready = record { ready = ready; is = s.is; part = s.part }
  stage_of (Got reply) w v awaits s ready = absurd awaits

  acted : (head : List ℕ) (w v : World) (at : ℕ) → at ≤ until → (ready : IsReady plan realm head Asks w) → IsActedOn (control_at plan.client.transport head) ready.client.core at w v → IsReady plan realm head Asks v
  acted head w v at early ready a = placed plan realm plan.client.transport refl head Asks w v ready.desk
      (record { core = a.core; there = a.there; is = do_ask.acts ready.client.core a.core at early ready.client.is a.acted; of = a.of })

  called : (head : List ℕ) (w v : World) (what : ClientCall) (at : ℕ) (ret : Answer) → at ≤ until → IsOwnCall what → IsReady plan realm head Asks w → IsStep (Call what at) w ret v → IsReady plan realm head Asks v
  called head w v what at ret early own ready step = acted head w v at early ready (calls (control_at plan.client.transport head) w v ready.client.core what at ret ready.client.there own step)

  transmits : (head : List ℕ) (w v : World) (at : ℕ) (ret : Answer) → at ≤ until → IsReady plan realm head Asks w → IsStep (Draw at) w ret v → IsReady plan realm head Asks v
  transmits head w v at ret early ready step = acted head w v at early ready (draws (control_at plan.client.transport head) w v ready.client.core at ret ready.client.there step)

  -- After a draw.
  drawn_to : (stage next : Stage) (ret : Answer) (w v : World) → IsAwaited stage → IsDrawTo request stage ret next → IsAtStage stage w → IsReady plan realm (head_of stage) Asks v → IsAtStage next v
  drawn_to Pending next ret w v awaits (inl given) s ready = subst (λ (x : Stage). IsAtStage x v) (sym given.1) ready
  drawn_to Pending next ret w v awaits (inr other) s ready = subst (λ (x : Stage). IsAtStage x v) (sym other.1) ready
  drawn_to Transmitted next ret w v awaits to s ready = subst (λ (x : Stage). IsAtStage x v) (sym to) ready
  drawn_to (Granted reply head) next ret w v awaits to s ready = subst (λ (x : Stage). IsAtStage x v) (sym to) (stage_of (Granted reply head) w v awaits s ready)
  drawn_to (Challenged reply head) next ret w v awaits to s ready = subst (λ (x : Stage). IsAtStage x v) (sym to) (stage_of (Challenged reply head) w v awaits s ready)
  drawn_to (Got reply) next ret w v awaits to s ready = absurd awaits

  -- `poll_recv` is called.
  received_on : (head : List ℕ) (w v : World) (at : ℕ) (ret : Answer) → IsStoredOf plan.client.transport head → IsReady plan realm head Asks w → IsStep (Call call.PollRecv at) w ret v → IsReady plan realm head Asks v
  received_on head w v at ret stored ready step =
      let c = ready.client in
      placed plan realm plan.client.transport refl head Asks w v ready.desk
      (receives (control_at plan.client.transport head) Asks w v c.core at ret c.there c.is (do_ask.waits head c.core c.is stored) step)

  received : (stage : Stage) (w v : World) (at : ℕ) (ret : Answer) → IsAtStage stage w → IsStep (Call call.PollRecv at) w ret v → IsAtStage stage v
  received Pending w v at ret s step = received_on [] w v at ret (nothing_of plan.client.transport) s step
  received Transmitted w v at ret s step = received_on [] w v at ret (nothing_of plan.client.transport) s step
  received (Granted reply head) w v at ret s step = record { ready = received_on head w v at ret (part_of_one plan.client.transport head reply s.part) s.ready step; grant = s.grant; part = s.part }
  received (Challenged reply head) w v at ret s step = record { ready = received_on head w v at ret (part_of_one plan.client.transport head reply s.part) s.ready step; is = s.is; part = s.part }
  received (Got reply) w v at ret s step =
      let i = receives (control_at plan.client.transport []) Held w v s.core at ret s.there s.is (do_ask.rests s.core s.is) step in
      record { core = i.core; there = i.there; is = i.is }

  -- Something reaches the server core.
  served : (stage : Stage) (w v : World) (ret : Answer) (bytes : Vec ℕ Global) (from : SocketAddr) (at : ℕ) (decision : Decision) (seed : List ℕ) → IsAtStage stage w → IsStep (ToDesk bytes from at decision seed) w ret v → IsAtStage stage v
  served Pending w v ret bytes from at decision seed s step = at_desk plan realm [] Asks w v ret bytes from at decision seed s step
  served Transmitted w v ret bytes from at decision seed s step = at_desk plan realm [] Asks w v ret bytes from at decision seed s step
  served (Granted reply head) w v ret bytes from at decision seed s step = record { ready = at_desk plan realm head Asks w v ret bytes from at decision seed s.ready step; grant = s.grant; part = s.part }
  served (Challenged reply head) w v ret bytes from at decision seed s step = record { ready = at_desk plan realm head Asks w v ret bytes from at decision seed s.ready step; is = s.is; part = s.part }
  served (Got reply) w v ret bytes from at decision seed s step = record { core = s.core; there = ap (λ (x : World). x.client) step.1 ∙ s.there; is = s.is }

  granted : (w v : World) (bytes reply : Vec ℕ Global) (now : ℕ) (decision : Decision) (seed : List ℕ) → bytes.items ≡ request → class_of (kind_at reply.items) ≡ Success
      → IsReady plan realm [] Asks w → IsStep (ToDesk bytes plan.client.here now decision seed) w (answer.Reply reply) v → IsGrantOf plan.client realm request reply.items
  granted w v bytes reply now decision seed same success ready step =
      let requested = subst (λ (l : List ℕ). IsDeskAnswered (answer.Reply reply) w.desk l plan.client.here now decision seed v.desk) same step.0 in
      grants_own plan.client realm wanted request (do_ask.own ready.client.core ready.client.is) w.desk v.desk ready.desk plan.client.here reply.items now (words_of seed) decision requested.reply.served success requested.reply.answer

  -- The server core challenges the request.
  challenging : (w v : World) (bytes reply : Vec ℕ Global) (now : ℕ) (decision : Decision) (seed : List ℕ) (shown : ChallengeFields) → bytes.items ≡ request → challenge_visible reply.items ≡ Some shown → KeepsSettings plan old w.desk
      → IsReady plan realm [] Asks w → IsStep (ToDesk bytes plan.client.here now decision seed) w (answer.Reply reply) v → IsChallenging reply.items
  challenging w v bytes reply now decision seed shown same shows keeps ready step =
      let requested = subst (λ (l : List ℕ). IsDeskAnswered (answer.Reply reply) w.desk l plan.client.here now decision seed v.desk) same step.0 in
      let method = request_method (request_for wanted) in
      let own = do_ask.own ready.client.core ready.client.is in
      let kept = keeps_on plan old may (ToDesk bytes plan.client.here now decision seed) w v (answer.Reply reply) step keeps in
      let served_so = requested.reply.served in
      let replied = requested.reply.answer in
      record {
        message = challenges.message_is w.desk v.desk plan.client.here request reply.items now (words_of seed) decision method (is_method wanted) (error_so wanted) own.method served_so replied shown shows;
        answers = no_indication (class_of (kind_at reply.items)) (challenges_respond reply.items shown shows);
        number_is = challenges.number_same w.desk v.desk plan.client.here request reply.items now (words_of seed) decision method (is_method wanted) (error_so wanted) own.method served_so replied shown shows;
        reported = shown;
        visible = shows;
        of = record {
          realm = challenges.realm_is w.desk v.desk plan.client.here request reply.items now (words_of seed) decision method (is_method wanted) (error_so wanted) own.method served_so replied shown shows ∙ keeps.realm;
          takes_own = challenges.takes_so w.desk v.desk plan.client.here request reply.items now (words_of seed) decision method (is_method wanted) (error_so wanted) own.method served_so replied shown shows
              old.desk.auth.algorithms old.desk.auth.anonymous_username keeps.algorithms kept.announces;
          hides = challenges.hides_so w.desk v.desk plan.client.here request reply.items now (words_of seed) decision method (is_method wanted) (error_so wanted) own.method served_so replied shown shows
              old.desk.auth.algorithms old.desk.auth.anonymous_username keeps.algorithms kept.announces;
          listed = challenges.list_there w.desk v.desk plan.client.here request reply.items now (words_of seed) decision method (is_method wanted) (error_so wanted) own.method served_so replied shown shows;
        };
      }

  -- A chunk of the challenge comes, and more is to come.
  turned : (w v : World) (now : ℕ) (reply before head rest : List ℕ) → rest ≢ [] → (t : IsTurning reply before w) → IsBrought plan.client.transport t.ready.client.core reply head rest now w v → IsTurning reply head v
  turned w v now reply before head [] some t b = absurd (some refl)
  turned w v now reply before head (byte ∷ rest) some t b = record {
    ready = placed plan realm plan.client.transport refl head Asks w v t.ready.desk
        (record { core = b.0.core; there = b.0.there; is = subst (λ (x : Protocol). Asks x) (sym b.0.is) t.ready.client.is; of = b.0.of });
    is = t.is;
    part = b.1;
  }

  -- The last chunk of it comes.
  pub turned_on : (w v : World) (now : ℕ) (reply head rest : List ℕ) (bytes : Vec ℕ Global) (ret : Answer) → now ≤ until → BringsOn plan.client.transport reply head bytes.items rest → (t : IsTurning reply head w)
      → IsStep (ToClient bytes plan.client.server plan.client.here now) w ret v → IsBrought plan.client.transport t.ready.client.core reply (head ++ bytes.items) rest now w v
  turned_on w v now reply head rest bytes ret early on t step =
      let c = t.ready.client in
      brings plan.client w v c.core (do_ask.of c.core c.is) bytes now ret (within now (passes now until client_end early range)) step reply t.is.message t.is.answers plan.client.transport head rest c.there on

  -- A chunk of the reply comes.
  came : (w v : World) (now : ℕ) (reply before head rest : List ℕ) → now ≤ until → (a : IsArriving reply before w) → IsBrought plan.client.transport a.ready.client.core reply head rest now w v → IsAtStage (brought reply head rest) v
  came w v now reply before head [] early a b = record { core = b.core; there = b.there; is = do_ask.holds reply a.ready.client.core b.core b.is.0 now early a.ready.client.is a.grant b.is.1 }
  came w v now reply before head (byte ∷ rest) early a b = record {
    ready = placed plan realm plan.client.transport refl head Asks w v a.ready.desk
        (record { core = b.0.core; there = b.0.there; is = subst (λ (x : Protocol). Asks x) (sym b.0.is) a.ready.client.is; of = b.0.of });
    grant = a.grant;
    part = b.1;
  }

  brought_on : (w v : World) (now : ℕ) (reply head rest : List ℕ) (bytes : Vec ℕ Global) (ret : Answer) → now ≤ until → BringsOn plan.client.transport reply head bytes.items rest → IsArriving reply head w
      → IsStep (ToClient bytes plan.client.server plan.client.here now) w ret v → IsAtStage (brought reply (head ++ bytes.items) rest) v
  brought_on w v now reply head rest bytes ret early on a step =
      let c = a.ready.client in
      came w v now reply head (head ++ bytes.items) rest early a
      (brings plan.client w v c.core (do_ask.of c.core c.is) bytes now ret (within now (passes now until client_end early range)) step reply a.grant.message (ap is_indication a.grant.success) plan.client.transport head rest c.there on)

  one : (event : Event) (w v : World) (ret : Answer) (position next : RequestPosition) → Leads plan request until position event ret next → KeepsSettings plan old w.desk → IsAtStage position.stage w → IsStep event w ret v → IsAtStage next.stage v
  one event w v ret position next (Draws now stage awaits in_time is by_draw to) keeps s step =
      subst (λ (x : RequestPosition). IsAtStage x.stage v) (sym to)
      (drawn_to position.stage stage ret w v awaits by_draw s (transmits (head_of position.stage) w v now ret in_time.early (ready_of position.stage w awaits s) (subst (λ (e : Event). IsStep e w ret v) is step)))
  one event w v ret position next (Calls what now awaits own in_time is to) keeps s step =
      subst (λ (x : RequestPosition). IsAtStage x.stage v) (sym to)
      (stage_of position.stage w v awaits s (called (head_of position.stage) w v what now ret in_time.early own (ready_of position.stage w awaits s) (subst (λ (e : Event). IsStep e w ret v) is step)))
  one event w v ret position next (Receives now in_time is to) keeps s step =
      subst (λ (x : RequestPosition). IsAtStage x.stage v) (sym to) (received position.stage w v now ret s (subst (λ (e : Event). IsStep e w ret v) is step))
  one event w v ret position next (AtDesk bytes from now decision seed is to) keeps s step =
      subst (λ (x : RequestPosition). IsAtStage x.stage v) (sym to) (served position.stage w v ret bytes from now decision seed s (subst (λ (e : Event). IsStep e w ret v) is step))
  one event w v ret position next (Grants bytes reply now decision seed at same is said success to) keeps s step =
      let here : IsAtStage Transmitted w = subst (λ (x : Stage). IsAtStage x w) at s in
      let requested = subst (λ (a : Answer). IsStep (ToDesk bytes plan.client.here now decision seed) w a v) said (subst (λ (e : Event). IsStep e w ret v) is step) in
      let grant = granted w v bytes reply now decision seed same success here requested in
      subst (λ (x : RequestPosition). IsAtStage x.stage v) (sym to) (record {
        ready = at_desk plan realm [] Asks w v (answer.Reply reply) bytes plan.client.here now decision seed here requested;
        grant = grant;
        part = none_yet reply.items grant.message;
      })
  one event w v ret position next (Challenges bytes reply now decision seed reported at same is said shows to) keeps s step =
      let here : IsAtStage Transmitted w = subst (λ (x : Stage). IsAtStage x w) at s in
      let requested = subst (λ (a : Answer). IsStep (ToDesk bytes plan.client.here now decision seed) w a v) said (subst (λ (e : Event). IsStep e w ret v) is step) in
      let challenge = challenging w v bytes reply now decision seed reported same shows keeps here requested in
      subst (λ (x : RequestPosition). IsAtStage x.stage v) (sym to) (record {
        ready = at_desk plan realm [] Asks w v (answer.Reply reply) bytes plan.client.here now decision seed here requested;
        is = challenge;
        part = none_yet reply.items challenge.message;
      })
  one event w v ret position next (Turns reply head rest bytes now at on some in_time is to) keeps s step =
      let t : IsTurning reply head w = subst (λ (x : Stage). IsAtStage x w) at s in
      subst (λ (x : RequestPosition). IsAtStage x.stage v) (sym to)
      (turned w v now reply head (head ++ bytes.items) rest some t (turned_on w v now reply head rest bytes ret in_time.early on t (subst (λ (e : Event). IsStep e w ret v) is step)))
  one event w v ret position next (Brings reply head rest bytes now at on in_time is to) keeps s step =
      let a : IsArriving reply head w = subst (λ (x : Stage). IsAtStage x w) at s in
      subst (λ (x : RequestPosition). IsAtStage x.stage v) (sym to) (brought_on w v now reply head rest bytes ret in_time.early on a (subst (λ (e : Event). IsStep e w ret v) is step))

  pub asking : (pairs : List (Event × Answer)) (w v : World) (position last : RequestPosition) → KeepsSettings plan old w.desk → IsAtStage position.stage w → IsRun w pairs v → IsAskingLoop plan request until position pairs last → IsAtStage last.stage v
  unfolding IsRun IsAskingLoop
  asking [] w v position last keeps s run is = subst (λ (x : RequestPosition). IsAtStage x.stage v) (sym is) (subst (λ (x : World). IsAtStage position.stage x) (sym run) s)
  asking (pair ∷ pairs) w v position last keeps s run is =
      asking pairs run.0 v is.0 last (keeps_on plan old may pair.0 w run.0 pair.1 run.1 keeps) (one pair.0 w run.0 pair.1 position is.0 is.1 keeps s run.1) run.2 is.2

  -- ---- while it is queued

  -- A statement on the client, by the time of its last message, that stays while the request isn't given.
  module _ (Is : (sent : ℕ) → Protocol → Type 0) (grows : (sent : ℕ) (p q : Protocol) → Is sent p → IsGrown p q → Is sent q)
      (goes : (sent at : ℕ) (p q : Protocol) (ret : Answer) → sent ≤ at → p.phase ≡ Authenticated → (IsGiven request ret → ⊥) → Is sent p → IsDrawnAs p at ret q → Is (sent_after at ret sent) q) where
    abbrev Both : (sent : ℕ) → Protocol → Type 0
    Both sent p = Asks p × Is sent p

    pub record IsWaiting (position : RequestPosition) (w : World) : Type 0 where
      pub before : position.sent ≤ position.last
      pub ready : IsReady plan realm [] (Both position.sent) w

    alone : (sent : ℕ) (w : World) → IsReady plan realm [] (Both sent) w → IsReady plan realm [] Asks w
    alone sent w r = record { client = record { core = r.client.core; there = r.client.there; is = r.client.is.0 }; desk = r.desk }

    -- The queue of the client after the event.
    both : (sent : ℕ) (v : World) (r : IsReady plan realm [] Asks v) (core : Protocol) → v.client ≡ Some (over (control_at plan.client.transport []) core) → Is sent core → IsReady plan realm [] (Both sent) v
    both sent v r core there is = record {
      client = record { core = r.client.core; there = r.client.there; is = (r.client.is, subst (λ (x : Protocol). Is sent x) (same_core (control_at plan.client.transport []) core r.client.core v.client there r.client.there) is) };
      desk = r.desk;
    }

    both_wait : (sent : ℕ) (p : Protocol) → Both sent p → DoesWait (control_at plan.client.transport []) p (Both sent)
    both_wait sent p is = λ at given q r.
        let one_so = do_ask.waits [] p is.0 (nothing_of plan.client.transport) at given q r in
        ((one_so.0, grows sent p q.core is.1 (wait_grown plan.client.transport p at given q r)), one_so.1)

    pub waiting_one : (event : Event) (w v : World) (ret : Answer) (position next : RequestPosition) → position.stage ≡ Pending → next.stage ≡ Pending → Leads plan request until position event ret next → IsWaiting position w → IsStep event w ret v → IsWaiting next v
    waiting_one event w v ret position next at pending (Draws now stage awaits in_time is by_draw to) s step =
        let c = s.ready.client in
        let own_step = subst (λ (e : Event). IsStep e w ret v) is step in
        let before = s.before in
        let later = in_time.later in
        let d = draws_on (control_at plan.client.transport []) w v c.core now ret c.there (passes now until client_end in_time.early range) own_step in
        let sent_before : position.sent ≤ now = omega (arith, before, later) in
        let moved = goes position.sent now c.core d.core ret sent_before (do_ask.on c.core c.is.0) not_given c.is.1 d.by_draw in
        let ready = both (sent_after now ret position.sent) v (transmits [] w v now ret in_time.early (alone position.sent w s.ready) own_step) d.core d.there moved in
        subst (λ (x : RequestPosition). IsWaiting x v) (sym to) (record { before = sent_sooner ret position.sent now sent_before; ready = ready })
      where
        never : (stage : Stage) → IsDrawTo request Pending ret stage → stage ≡ Pending → IsGiven request ret → ⊥
        never stage (inl given) same = absurd (Prim.cc (sym given.1 ∙ same))
        never stage (inr other) same = other.0

        not_given : IsGiven request ret → ⊥
        not_given = never stage (subst (λ (x : Stage). IsDrawTo request x ret stage) at by_draw) (ap (λ (x : RequestPosition). x.stage) (sym to) ∙ pending)
    waiting_one event w v ret position next at pending (Calls what now awaits own in_time is to) s step =
        let c = s.ready.client in
        let own_step = subst (λ (e : Event). IsStep e w ret v) is step in
        let before = s.before in
        let later = in_time.later in
        let g = grows_on (control_at plan.client.transport []) w v c.core what now ret (do_ask.on c.core c.is.0) c.there own own_step in
        let ready = both position.sent v (called [] w v what now ret in_time.early own (alone position.sent w s.ready) own_step) g.core g.there (grows position.sent c.core g.core c.is.1 g.grown) in
        subst (λ (x : RequestPosition). IsWaiting x v) (sym to) (record { before = omega (arith, before, later); ready = ready })
    waiting_one event w v ret position next at pending (Receives now in_time is to) s step =
        let c = s.ready.client in
        let before = s.before in
        let later = in_time.later in
        let i = receives (control_at plan.client.transport []) (Both position.sent) w v c.core now ret c.there c.is (both_wait position.sent c.core c.is) (subst (λ (e : Event). IsStep e w ret v) is step) in
        subst (λ (x : RequestPosition). IsWaiting x v) (sym to) (record { before = omega (arith, before, later); ready = placed plan realm plan.client.transport refl [] (Both position.sent) w v s.ready.desk i })
    waiting_one event w v ret position next at pending (AtDesk bytes from now decision seed is to) s step =
        subst (λ (x : RequestPosition). IsWaiting x v) (sym to)
        (record { before = s.before; ready = at_desk plan realm [] (Both position.sent) w v ret bytes from now decision seed s.ready (subst (λ (e : Event). IsStep e w ret v) is step) })
    waiting_one event w v ret position next at pending (Grants bytes reply now decision seed there same is said success to) s step = absurd (Prim.cc (sym at ∙ there))
    waiting_one event w v ret position next at pending (Challenges bytes reply now decision seed reported there same is said shows to) s step = absurd (Prim.cc (sym at ∙ there))
    waiting_one event w v ret position next at pending (Turns reply head rest bytes now there on some in_time is to) s step = absurd (Prim.cc (sym at ∙ there))
    waiting_one event w v ret position next at pending (Brings reply head rest bytes now there on in_time is to) s step = absurd (Prim.cc (sym at ∙ there))

    -- It was queued before.
    pub pending_before : (event : Event) (ret : Answer) (position next : RequestPosition) → next.stage ≡ Pending → Leads plan request until position event ret next → position.stage ≡ Pending
    pending_before event ret position next pending (Draws now stage awaits in_time is by_draw to) = by position.stage refl
      where
        at_stage : stage ≡ Pending
        at_stage = ap (λ (x : RequestPosition). x.stage) (sym to) ∙ pending

        by : (was : Stage) → position.stage ≡ was → position.stage ≡ Pending
        by Pending is = is
        by Transmitted is = absurd (Prim.cc (sym at_stage ∙ subst (λ (x : Stage). IsDrawTo request x ret stage) is by_draw))
        by (Granted reply head) is = absurd (Prim.cc (sym at_stage ∙ subst (λ (x : Stage). IsDrawTo request x ret stage) is by_draw))
        by (Challenged reply head) is = absurd (Prim.cc (sym at_stage ∙ subst (λ (x : Stage). IsDrawTo request x ret stage) is by_draw))
        by (Got reply) is = absurd (Prim.cc (sym at_stage ∙ subst (λ (x : Stage). IsDrawTo request x ret stage) is by_draw))
    pending_before event ret position next pending (Calls what now awaits own in_time is to) = ap (λ (x : RequestPosition). x.stage) (sym to) ∙ pending
    pending_before event ret position next pending (Receives now in_time is to) = ap (λ (x : RequestPosition). x.stage) (sym to) ∙ pending
    pending_before event ret position next pending (AtDesk bytes from now decision seed is to) = ap (λ (x : RequestPosition). x.stage) (sym to) ∙ pending
    pending_before event ret position next pending (Grants bytes reply now decision seed there same is said success to) = absurd (Prim.cc (ap (λ (x : RequestPosition). x.stage) (sym to) ∙ pending))
    pending_before event ret position next pending (Challenges bytes reply now decision seed reported there same is said shows to) = absurd (Prim.cc (ap (λ (x : RequestPosition). x.stage) (sym to) ∙ pending))
    pending_before event ret position next pending (Turns reply head rest bytes now there on some in_time is to) = absurd (Prim.cc (ap (λ (x : RequestPosition). x.stage) (sym to) ∙ pending))
    pending_before event ret position next pending (Brings reply head rest bytes now there on in_time is to) = absurd (not_brought (head ++ bytes.items) rest (ap (λ (x : RequestPosition). x.stage) (sym to) ∙ pending))
      where
        not_brought : (head rest : List ℕ) → brought reply head rest ≡ Pending → ⊥
        not_brought head [] same = absurd (Prim.cc same)
        not_brought head (byte ∷ rest) same = absurd (Prim.cc same)

    pub pending_first : (pairs : List (Event × Answer)) (position last : RequestPosition) → last.stage ≡ Pending → IsAskingLoop plan request until position pairs last → position.stage ≡ Pending
    unfolding IsAskingLoop
    pending_first [] position last pending is = ap (λ (x : RequestPosition). x.stage) (sym is) ∙ pending
    pending_first (pair ∷ pairs) position last pending is = pending_before pair.0 pair.1 position is.0 (pending_first pairs is.0 last pending is.2) is.1

    pub waiting : (pairs : List (Event × Answer)) (w v : World) (position last : RequestPosition) → last.stage ≡ Pending → IsWaiting position w → IsRun w pairs v → IsAskingLoop plan request until position pairs last → IsWaiting last v
    unfolding IsRun IsAskingLoop
    waiting [] w v position last pending s run is = subst (λ (x : RequestPosition). IsWaiting x v) (sym is) (subst (λ (x : World). IsWaiting position x) (sym run) s)
    waiting (pair ∷ pairs) w v position last pending s run is =
        let next = pending_first pairs is.0 last pending is.2 in
        waiting pairs run.0 v is.0 last pending (waiting_one pair.0 w run.0 pair.1 position is.0 (pending_before pair.0 pair.1 position is.0 next is.1) next is.1 s run.1) run.2 is.2
