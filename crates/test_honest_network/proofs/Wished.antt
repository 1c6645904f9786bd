-- A client that has an allocation requested something, and the server core granted it.
use Rattle.std.proofs.Common.{◌≡◌, ◌≢◌, ℕ, ◌<◌, arith, false, List, [], ◌∷◌, Option, Some, None, refl, sym, ap, ◌∙◌, subst, inl, inr}
use Rattle.std.proofs.lemmas.List.{append-nil}
use Rattle.std.specs.Prelude.{IfOk, Result, Ok, Err}
use Rattle.std.specs.declared.net.ip_addr.IpAddr.{IpAddr}
use Rattle.std.specs.declared.net.socket_addr.SocketAddr.{SocketAddr}
use Rattle.turn_client_proto_api.specs.StunProtoTransaction.Schedule.{end_at}
use Rattle.stun_types_wire.specs.Attributes.{kind_at}
use Rattle.stun_types_wire.specs.declared.class.MessageClass.TheVariants.{Success}
use Rattle.stun_types_wire.specs.Types.{class_of}
use Rattle.stun_types_base.specs.declared.transport.TransportType.{TransportType}
use Rattle.stun_types_base.specs.declared.transport.TransportType.TheVariants.{Udp, Tcp}
use Rattle.turn_client_proto.specs.Allocation.Refreshing.{granted}
use Rattle.turn_client_proto.specs.Allocation.declared.allocation.Allocation.{Allocation}
use Rattle.turn_client_proto.specs.Timers.Drawing.{IsTransmitted, is_resting}
use Rattle.turn_client_proto.specs.Timers.Polling.{pace_of}
use Rattle.turn_client_proto_api.specs.Options.{cadence}
use Rattle.turn_client_proto_api.specs.Sent.{Sent, sent_of}
use Rattle.turn_client_proto.specs.TurnRuns.Members.{IsIn}
use Rattle.turn_desk_progress_laws.specs.TurnClientProtoProgressLaws.Asking.{IsMade}
use Rattle.turn_desk_progress_laws.specs.TurnClientProtoProgressLaws.Speaking.{AreHeldBeyond}
use Rattle.turn_desk_progress_laws.specs.TurnClientProtoHandshakeLaws.Stages.{Holds}
use Rattle.turn_desk_progress_laws.specs.Promises.{HasClient, IsFresh, control_at, events_in, over}
use Rattle.turn_desk_progress_laws.specs.Scripts.{BringsOn, Done, IsScript, Progress, Plan, Start}
use Rattle.turn_desk_progress_laws.specs.Standing.{IsHeld}
use Rattle.turn_desk_progress_laws.proofs.Clients.{IsTransmittedOn, done, draws, stays}
use Rattle.turn_desk_progress_laws.specs.Asking.{Transmitted, Got, Granted, Idle, Draws, IsAskingScript, IsCleanRun, IsTransmitted as IsTransmittedHere, IsGiven, IsGranted, IsRequestOf, Pending, replies_in}
use Rattle.turn_desk_progress_laws.specs.RequestPromises.{IsChannelHeld, IsPermissionHeld}
use Rattle.turn_desk_world.specs.Calls.{IsCallReported, IsCalled, IsTransmittedAs}
use Rattle.turn_client_proto.specs.Recv.Control.{Control}
use Rattle.turn_client_proto.specs.Recv.ClientState.{ClientState, Protocol}
use Rattle.turn_desk_world.specs.Model.{World}
use Rattle.turn_desk_world.specs.Runs.{IsRun, IsStep}
use Rattle.turn_desk_event.specs.declared.answer.Answer.{Answer}
use Rattle.turn_desk_event.specs.declared.answer.Answer.TheVariants as answer
use Rattle.turn_desk_core.specs.declared.decision.Decision.TheVariants as by
use Rattle.turn_desk_event.specs.declared.event.ClientCall.{ClientCall}
use Rattle.turn_desk_event.specs.declared.event.ClientCall.TheVariants.{BindChannel, CreatePermission}
use Rattle.turn_desk_event.specs.declared.event.Event.{Event}
use Rattle.turn_desk_event.specs.declared.event.Event.TheVariants.{Call, Draw, ToClient, ToDesk}
use Rattle.test_driver.specs.Driving.{Happened}
use Rattle.test_honest_network.specs.Simulations.{HasSimulated, plan_of}
use Rattle.test_honest_network.specs.Wishes as wish
use Rattle.test_honest_network.specs.Wishes.{HasRequested, HasBrought, HasGiven, HasSent, IsBound, IsSimulated, IsPermitted}
use Rattle.test_honest_network.specs.declared.asking.TheConstants.{CALLED, TRANSMITTED}
use Rattle.test_honest_network.specs.declared.asking.Wish.{Wish}
use Rattle.test_honest_network.specs.declared.asking.Wish.TheVariants.{Unheld, Held}
use Rattle.test_honest_network.specs.declared.simulation.Outcome.TheVariants as outcome
use Rattle.test_honest_network.specs.declared.simulation.TheConstants.{LIFETIME, SECOND}
use Rattle.test_honest_network.specs.declared.setting.Setting.{Setting}
use Rattle.test_honest_network.proofs.Shaking.{Standing}
use Rattle.test_honest_network.proofs.Wishing.{HasMade, channel_made, transmitted, permission_made, rested}

-- ---- one event

pub step_of : (old new : World) (event : Event) (ret : Answer) → Happened event old ret new → IsStep event old ret new
unfolding IsRun
step_of old new event ret is = subst (λ (w : World). IsStep event old ret w) (sym is.2) is.1

nothing : (p q : Protocol) (now : ℕ) → IsTransmittedAs answer.Nothing p now q → IsTransmitted p now None q
unfolding IsTransmittedAs
nothing p q now is = is

something : (p q : Protocol) (now : ℕ) (sent : _) → IsTransmittedAs (answer.Transmit sent) p now q → IsTransmitted p now (Some (sent_of sent)) q
unfolding IsTransmittedAs
something p q now sent is = is

-- A call succeeded and made a request.
record IsCalledOn (c : Control) (p : Protocol) (at : ℕ) (v : World) : Type 0 where
  after : Protocol
  there : v.client ≡ Some (over c after)
  text : List ℕ
  made : HasMade p after text at

-- The call makes a request whenever it succeeds.
abbrev Makes : ClientCall → Type 0
Makes what = (p : Protocol) (q : ClientState) (c : Control) (at : ℕ) → IsCallReported what answer.Done (over c p) at q → ((text : List ℕ) × HasMade p q.core text at) × (q.control ≡ c)

permission_makes : (transport : TransportType) (ip : IpAddr) → Makes (CreatePermission transport ip)
unfolding IsCallReported IsCalled
permission_makes transport ip p q c at is = (permission_made p q.core transport ip at is.0, is.1)

channel_makes : (transport : TransportType) (peer : SocketAddr) → Makes (BindChannel transport peer)
unfolding IsCallReported IsCalled
channel_makes transport peer p q c at is = (channel_made p q.core transport peer at is.0, is.1)

call_done : (c : Control) (w v : World) (p : Protocol) (what : ClientCall) (at : ℕ) → Makes what → w.client ≡ Some (over c p) → IsStep (Call what at) w answer.Done v → IsCalledOn c p at v
call_done c w v p what at makes there step =
    let d = done c at _ p w.client v.client answer.Done there step.0 in
    elim d.outcome [
      | inl does ↦ (let reported = makes p d.after c at does.1 in record { after = d.after.core; there = d.there ∙ ap Some (stays c d.after reported.1); text = reported.0.0; made = reported.0.1 })
      | inr out ↦ absurd (Prim.cc out.0)
    ]

some_bytes : (reply : List ℕ) → class_of (kind_at reply) ≡ Success → reply ≢ []
some_bytes reply success = λ none. Prim.cc (sym (ap (λ (l : List ℕ). class_of (kind_at l)) none) ∙ success)

-- An honest network may deliver a whole reply at once.
at_once : (reply : List ℕ) → reply ≢ [] → (transport : TransportType) → BringsOn transport reply [] reply []
at_once reply some Udp = (refl, refl)
at_once reply some Tcp = (some, sym (append-nil reply))

-- ---- the theorem

abbrev pub Law : Type 0
Law = (plan : Plan) (old one two three four : World) (first second third : List (Event × Answer)) (signed : Sent) (reply request grant : List ℕ) (address : SocketAddr) (lifetime made now : ℕ) (ip : IpAddr) → IsFresh plan old → IsRun old first one
    → IsScript plan Start first (Done signed address lifetime reply) → IsRun one second two → IsCleanRun plan (replies_in first []) Idle second Idle → HasClient plan [] two (λ p. AreHeldBeyond now p.allocations) → now < end_at made plan.client.config.waits
    → IsStep (Call (CreatePermission plan.client.config.transport ip) made) two answer.Done three → IsRequestOf two three request → IsRun three third four → IsAskingScript plan request now Pending third (Got grant) → IsPermissionHeld plan ip now four

abbrev pub ChannelLaw : Type 0
ChannelLaw = (plan : Plan) (old one two three four : World) (first second third : List (Event × Answer)) (signed : Sent) (reply request grant : List ℕ) (address : SocketAddr) (lifetime made now : ℕ) (peer : SocketAddr) → IsFresh plan old → IsRun old first one
    → IsScript plan Start first (Done signed address lifetime reply) → IsRun one second two → IsCleanRun plan (replies_in first []) Idle second Idle → HasClient plan [] two (λ p. AreHeldBeyond now p.allocations) → now < end_at made plan.client.config.waits
    → IsStep (Call (BindChannel plan.client.config.transport peer) made) two answer.Done three → IsRequestOf two three request → IsRun three third four → IsAskingScript plan request now Pending third (Got grant) → IsChannelHeld plan peer now four

module _ (standing : Standing) (s : Setting) (address : SocketAddr) (what : ClientCall) (makes : Makes what) (old one new : World) (fresh : IsFresh (plan_of s) old) (met : HasSimulated (plan_of s) address old outcome.Allocated one)
    (is : wish.IsGranted what s.here s.server one new) where
  abbrev plan : Plan
  plan = plan_of s

  abbrev signed : Sent
  signed = met.index_is.0

  abbrev reply : List ℕ
  reply = met.index_is.1

  abbrev control : Control
  control = control_at s.transport []

  script : IsScript plan Start met.pairs (Done signed address LIFETIME reply)
  script = subst (λ (p : Progress). IsScript plan Start met.pairs p) met.index_is.2 met.script

  held : IsHeld plan old (events_in met.pairs) signed address LIFETIME reply one
  held = standing plan old one met.pairs (Done signed address LIFETIME reply) fresh met.run script

  abbrev p : Protocol
  p = held.client.core

  holds : Holds plan.client held.choice address LIFETIME SECOND SECOND held.queue held.left p
  holds = held.client.is

  -- ---- it rests

  free : (now : ℕ) → is_resting cadence (Some SECOND) now ≡ false → is_resting (pace_of p) p.last_send now ≡ false
  free now is_free =
      ap (λ (l : Option ℕ). is_resting (pace_of p) l now) holds.last_send
      ∙ (ap (λ (n : ℕ). is_resting n (Some SECOND) now) (holds.settings.pace ∙ holds.settings.usual.pace) ∙ is_free)

  abbrev drawing : IsTransmittedOn control p CALLED answer.Nothing one is.resting
  drawing = draws control one is.resting p CALLED answer.Nothing held.client.there (omega arith) (step_of one is.resting (Draw CALLED) answer.Nothing is.rests)

  still : (p.queue ≡ []) × (drawing.core ≡ p)
  still = rested p drawing.core CALLED holds.phase (free CALLED refl) (nothing p drawing.core CALLED drawing.transmitted)

  there_two : is.resting.client ≡ Some (over control p)
  there_two = drawing.there ∙ ap (λ (x : Protocol). Some (over control x)) still.1

  clean : IsCleanRun plan (replies_in met.pairs []) Idle ((Draw CALLED, answer.Nothing) ∷ []) Idle
  unfolding IsCleanRun
  clean = (Idle, Draws CALLED refl refl, refl)

  later : (a : Allocation) → IsIn a (granted plan.client.config.transport address LIFETIME SECOND ∷ []) → (a.is_expired ≡ false) × (TRANSMITTED < a.expiry)
  later a (inl same) = (ap (λ (x : Allocation). x.is_expired) (sym same), subst (λ (x : Allocation). TRANSMITTED < x.expiry) same (omega arith))
  later a (inr other) = absurd other

  beyond : HasClient plan [] is.resting (λ x. AreHeldBeyond TRANSMITTED x.allocations)
  beyond = record { core = p; there = there_two; is = subst (λ (l : List Allocation). AreHeldBeyond TRANSMITTED l) (sym holds.allocations) later }

  -- ---- it is requested

  call : IsStep (Call what CALLED) is.resting answer.Done is.requested
  call = step_of is.resting is.requested (Call what CALLED) answer.Done is.call

  requested : IsCalledOn control p CALLED is.requested
  requested = call_done control is.resting is.requested p what CALLED makes there_two call

  ends : end_at CALLED plan.client.config.waits ≡ 39_600_000_000
  ends = refl

  in_time : TRANSMITTED < end_at CALLED plan.client.config.waits
  in_time = subst (λ (n : ℕ). TRANSMITTED < n) (sym ends) (omega arith)

  -- ---- its request is transmitted

  abbrev sends : HasSent s.here s.server is.requested new
  sends = is.sent

  abbrev request : List ℕ
  request = (sent_of sends.sent).bytes

  abbrev step_transmitted : IsStep (Draw TRANSMITTED) is.requested (answer.Transmit sends.sent) sends.transmitted
  step_transmitted = step_of is.requested sends.transmitted (Draw TRANSMITTED) (answer.Transmit sends.sent) sends.step

  is_made : IsMade p requested.after request
  is_made =
      let m = requested.made in
      let d = draws control is.requested sends.transmitted requested.after TRANSMITTED (answer.Transmit sends.sent) requested.there (omega arith) step_transmitted in
      transmitted p requested.after requested.text CALLED m holds.none_requested still.0 d.core TRANSMITTED (sent_of sends.sent) (ap (λ (l : Option ℕ). is_resting (pace_of requested.after) l TRANSMITTED) m.last ∙ (ap (λ (n : ℕ). is_resting n p.last_send TRANSMITTED) m.pace ∙ free TRANSMITTED refl)) (something requested.after d.core TRANSMITTED sends.sent d.transmitted)

  of : IsRequestOf is.resting is.requested request
  of = record { old = over control p; old_there = there_two; new = over control requested.after; new_there = requested.there; made = is_made }

  -- ---- and granted

  abbrev b : HasBrought sends.sent s.here s.server sends.transmitted new
  b = sends.brought

  abbrev g : HasGiven b.reply s.here s.server b.replied new
  g = b.taken

  abbrev third : List (Event × Answer)
  third = (Draw TRANSMITTED, answer.Transmit sends.sent) ∷ (ToDesk b.bytes s.here TRANSMITTED by.Grant b.seed, answer.Reply b.reply) ∷ (ToClient b.reply s.server s.here TRANSMITTED, g.ret) ∷ []

  carried : IsRun is.requested third new
  unfolding IsRun
  carried = (sends.transmitted, step_transmitted, (b.replied, step_of sends.transmitted b.replied (ToDesk b.bytes s.here TRANSMITTED by.Grant b.seed) (answer.Reply b.reply) b.requested, (new, step_of b.replied new (ToClient b.reply s.server s.here TRANSMITTED) g.ret g.given, refl)))

  asking : IsAskingScript plan request TRANSMITTED Pending third (Got b.reply.items)
  unfolding IsAskingScript
  asking = (
    Transmitted,
    IsTransmittedHere sends.sent refl refl refl refl refl,
    (
      Granted b.reply.items [],
      IsGranted b.bytes b.reply by.Grant b.seed refl b.same refl refl g.success refl,
      (Got b.reply.items, IsGiven b.reply.items [] [] b.reply refl (at_once b.reply.items (some_bytes b.reply.items g.success) s.transport) refl refl, refl),
    ),
  )

  pub has_requested : HasRequested plan address what old new
  has_requested = record {
    one = one;
    two = is.resting;
    three = is.requested;
    first = met.pairs;
    second = (Draw CALLED, answer.Nothing) ∷ [];
    third = third;
    signed = signed;
    reply = reply;
    request = request;
    grant = b.reply.items;
    met = met.run;
    script = script;
    on = is.rests;
    clean = clean;
    beyond = beyond;
    early = in_time;
    call = call;
    of = of;
    carried = carried;
    asking = asking;
  }

-- If the requested permission was granted and the reply reached the client, the client has the permission.
pub wished : {E : Type 0} (law : Law) (standing : Standing) (s : Setting) (address : SocketAddr) (ip : IpAddr) (old one new : World) → IsFresh (plan_of s) old → HasSimulated (plan_of s) address old outcome.Allocated one
    → (result : Result Wish E) → IfOk result (λ came. IsSimulated (CreatePermission Udp ip) s.here s.server one came new) → IfOk result (λ came. IsPermitted (plan_of s) address ip old came new)
wished law standing s address ip old one new fresh met (Ok Unheld) is = tt
wished law standing s address ip old one new fresh met (Ok Held) is =
    let a = has_requested standing s address (CreatePermission Udp ip) (permission_makes Udp ip) old one new fresh met is in
    record { requested = a; held = law (plan_of s) old a.one a.two a.three new a.first a.second a.third a.signed a.reply a.request a.grant address LIFETIME CALLED TRANSMITTED ip fresh a.met a.script a.on a.clean a.beyond a.early a.call a.of a.carried a.asking }
wished law standing s address ip old one new fresh met (Err error) is = tt

pub wished_channel : {E : Type 0} (law : ChannelLaw) (standing : Standing) (s : Setting) (address peer : SocketAddr) (old one new : World) → IsFresh (plan_of s) old → HasSimulated (plan_of s) address old outcome.Allocated one
    → (result : Result Wish E) → IfOk result (λ came. IsSimulated (BindChannel Udp peer) s.here s.server one came new) → IfOk result (λ came. IsBound (plan_of s) address peer old came new)
wished_channel law standing s address peer old one new fresh met (Ok Unheld) is = tt
wished_channel law standing s address peer old one new fresh met (Ok Held) is =
    let a = has_requested standing s address (BindChannel Udp peer) (channel_makes Udp peer) old one new fresh met is in
    record { requested = a; held = law (plan_of s) old a.one a.two a.three new a.first a.second a.third a.signed a.reply a.request a.grant address LIFETIME CALLED TRANSMITTED peer fresh a.met a.script a.on a.clean a.beyond a.early a.call a.of a.carried a.asking }
wished_channel law standing s address peer old one new fresh met (Err error) is = tt

-- The simulation is ready for an honest run, and the outcome of the request holds in it.
pub known : {E : Type 0} (plan_is : Plan) (Is : World → Wish → World → Type 0) (old new : World) → IsFresh plan_is old → (result : Result Wish E) → IfOk result (λ came. Is old came new)
    → IfOk result (λ came. (x : World) × (y : World) × IsFresh plan_is x × Is x came y)
known plan_is Is old new fresh (Ok came) is = (old, new, fresh, is)
known plan_is Is old new fresh (Err error) is = tt
