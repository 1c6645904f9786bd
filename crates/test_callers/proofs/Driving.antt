-- Turns of the loop that drives a client are runs of a simulation.
use Rattle.std.proofs.Common.{◌≡◌, ◌≢◌, ◌<◌, ◌≤◌, ◌+◌, ◌^◌, ◌++◌, ◌⊎◌, ℕ, Bool, List, [], ◌∷◌, length, Option, Some, None, Ok, Err, Vec, Global, refl, sym, ap, ◌∙◌, subst, append_assoc, arith, inl, inr}
use Rattle.std.specs.Prelude.{MatchOption, Result, option_map, option_to_list}
use Rattle.std.specs.Bool.{MatchBool}
use Rattle.std.specs.Ptr.{null_ptr}
use Rattle.std.specs.declared.net.ip_addr.IpAddr.{IpAddr}
use Rattle.std.specs.declared.net.socket_addr.SocketAddr.{SocketAddr}
use Rattle.std.proofs.lemmas.Bool.{le-leb}
use Rattle.stun_types.specs.Base.Data.{data_bytes}
use Rattle.stun_types.specs.Base.declared.data.Data.{Data}
use Rattle.stun_types.specs.Base.declared.data.Data.TheVariants.{Borrowed}
use Rattle.stun_types.specs.Base.declared.transmit.Transmit.{Transmit}
use Rattle.stun_types.specs.Base.declared.transport.TransportType.{TransportType}
use Rattle.stun_types.specs.Base.declared.transport.TransportType.TheVariants.{Tcp, Udp}
use Rattle.turn_client_proto.specs.Allocation.declared.connection.Connection.{Connection}
use Rattle.turn_client_proto.specs.Api.Sent.{Sent, sent_of}
use Rattle.turn_client_proto.specs.Api.declared.answer.TurnPollRet.{TurnPollRet}
use Rattle.turn_client_proto.specs.Api.declared.answer.TurnPollRet.TheVariants as poll
use Rattle.turn_client_proto.specs.Api.declared.error.SendError.{SendError}
use Rattle.turn_client_proto.specs.Api.declared.event.TurnEvent.{TurnEvent}
use Rattle.turn_client_proto.specs.ClientState.{ClientState, Leaves, Protocol}
use Rattle.turn_client_proto.specs.Binding.{IsBindAnswered}
use Rattle.turn_client_proto.specs.Deleting.{IsDeleteAnswered}
use Rattle.turn_client_proto.specs.Drawing.{IsTransmitted}
use Rattle.turn_client_proto.specs.Permitting.{IsPermissionAnswered}
use Rattle.turn_client_proto.specs.Polling.{IsPolled}
use Rattle.turn_client_proto.specs.Sending.{IsPassedOn, IsSendAnswered, IsSentOver, channel_to, connection_to, send_refusal, standing}
use Rattle.turn_desk_event.specs.declared.answer.Answer.{Answer}
use Rattle.turn_desk_event.specs.declared.answer.Answer.TheVariants as answer
use Rattle.turn_desk_event.specs.declared.event.ClientCall.{ClientCall}
use Rattle.turn_desk_event.specs.declared.event.ClientCall.TheVariants.{Poll, PollEvent, Delete, CreatePermission, BindChannel, SendTo}
use Rattle.turn_desk_event.specs.declared.event.Event.{Event}
use Rattle.turn_desk_event.specs.declared.event.Event.TheVariants.{Call, Draw}
use Rattle.turn_desk_world.specs.Calls.{IsCallReported, IsCalled, IsPolledAs, IsTransmittedAs}
use Rattle.turn_desk_world.specs.Model.{World}
use Rattle.turn_desk_world.specs.Runs.{IsAtClient, IsInRange, IsRun, is_in_range}
use Rattle.test_callers.proofs.Sending.{always_sent}
use Rattle.test_callers.specs.Driven.{Answered, AreParts, AreRepeated, HasTakenTurn, IsEventTaken, IsMessageDraw, IsResponse, IsRunOfClient, NoPart, OneMore, Pairs, UpToLimit, UpToNothing}

-- ---- runs of a client

at_client : (now : ℕ) (Does : ClientState → ClientState → Type 0) (p q : ClientState) (ret : Answer) → now ≤ 2 ^ 62
    → Does p q → (old : Option ClientState) → old ≡ Some p → IsAtClient now Does old ret (Some q)
unfolding IsAtClient IsInRange
at_client now Does p q ret early is old has =
    subst (λ (o : Option ClientState). IsAtClient now Does o ret (Some q)) (sym has)
    (subst (λ (b : Bool). MatchBool b (Does p q) ((ret ≡ answer.OutOfRange) × (q ≡ p)))
    (sym (le-leb now (2 ^ 62) early)) is)

-- A call in range is a run of one event.
called : (now : ℕ) (call : ClientCall) (ret : Answer) (p q : ClientState) → now ≤ 2 ^ 62
    → IsCallReported call ret p now q → IsRunOfClient ((Call call now, ret) ∷ []) p q
unfolding IsRun
called now call ret p q early is w has = (
  record w { client = Some q },
  (
    at_client now
        (λ (a b : ClientState). IsCallReported call ret a now b) p q ret early is w.client has,
    refl,
  ),
  refl,
)

drew : (now : ℕ) (ret : Answer) (p q : ClientState) → now ≤ 2 ^ 62
    → Leaves (λ (a b : Protocol). IsTransmittedAs ret a now b) p q → IsRunOfClient ((Draw now, ret) ∷ []) p q
unfolding IsRun
drew now ret p q early is w has = (
  record w { client = Some q },
  (
    at_client now
        (Leaves (λ (a b : Protocol). IsTransmittedAs ret a now b)) p q ret early is w.client has,
    refl,
  ),
  refl,
)

run_on : (first second : Pairs) (w v u : World) → IsRun w first v → IsRun v second u → IsRun w (first ++ second) u
unfolding IsRun
run_on [] second w v u one two = subst (λ (x : World). IsRun x second u) one two
run_on (pair ∷ first) second w v u one two = (one.0, one.1, run_on first second one.0 v u one.2 two)

-- Two runs of a client, one after the other.
then_on : (first second : Pairs) (p q r : ClientState) → IsRunOfClient first p q → IsRunOfClient second q r
    → IsRunOfClient (first ++ second) p r
then_on first second p q r one two w has =
    run_on first second w (record w { client = Some q }) (record w { client = Some r }) (one w has)
    (two (record w { client = Some q }) refl)

none : (p : ClientState) → IsRunOfClient [] p p
unfolding IsRun
none p w has = ap (λ (o : Option ClientState). record w { client = o }) (sym has)

-- ---- the calls of `poll_transmit`

-- `many` messages were drawn.
pub record HasDrawn (now many : ℕ) (old new : ClientState) : Type 0 where
  pub draws : Pairs
  pub parts : AreParts (IsMessageDraw now) many draws
  pub run : IsRunOfClient draws old new

pub nothing_drawn : (now : ℕ) (p : ClientState) → HasDrawn now 0 p p
nothing_drawn now p = record { draws = []; parts = NoPart; run = none p }

pub one_drawn : (now many : ℕ) (old p q : ClientState) (sent : Transmit Data) → now ≤ 2 ^ 62 → HasDrawn now many old p
    → Leaves (λ (a b : Protocol). IsTransmitted a now (Some (sent_of sent)) b) p q → HasDrawn now (many + 1) old q
unfolding IsTransmittedAs
one_drawn now many old p q sent early so is =
    let part : Pairs = (Draw now, answer.Transmit sent) ∷ [] in
    record {
      draws = so.draws ++ part;
      parts = OneMore so.parts (record { sent = sent; is = refl });
      run = then_on so.draws part old p q so.run (drew now (answer.Transmit sent) p q early is);
    }

-- No more is drawn.
pub record IsDrawOf (now : ℕ) (old new : ClientState) : Type 0 where
  pub draws : Pairs
  pub by_draw : AreRepeated (Draw now) (IsMessageDraw now) draws
  pub run : IsRunOfClient draws old new

pub up_to_nothing : (now many : ℕ) (old p q : ClientState) → now ≤ 2 ^ 62 → HasDrawn now many old p
    → Leaves (λ (a b : Protocol). IsTransmitted a now None b) p q → IsDrawOf now old q
unfolding IsTransmittedAs
up_to_nothing now many old p q early so is =
    let part : Pairs = (Draw now, answer.Nothing) ∷ [] in
    record {
      draws = so.draws ++ part;
      by_draw = UpToNothing many so.draws so.parts refl;
      run = then_on so.draws part old p q so.run (drew now answer.Nothing p q early is);
    }

pub up_to_limit : (now many : ℕ) (old p : ClientState) → many + 1 ≡ 2 ^ 64 → HasDrawn now many old p → IsDrawOf now old p
up_to_limit now many old p last so =
    record { draws = so.draws; by_draw = UpToLimit many so.parts last; run = so.run }

-- ---- the call of `poll`, and those of `poll_event`

-- `poll` was called, and `many` events were taken.
pub record HasTaken (now many : ℕ) (old new : ClientState) : Type 0 where
  pub draws : Pairs
  pub by_draw : AreRepeated (Draw now) (IsMessageDraw now) draws
  pub polled : Answer
  pub takes : Pairs
  pub parts : AreParts (IsEventTaken now) many takes
  pub run : IsRunOfClient (draws ++ (Call Poll now, polled) ∷ takes) old new

-- What `poll` returned, as a simulation reports it.
reported : (ret : TurnPollRet) (p q : Protocol) (now : ℕ) → ret ≢ poll.NoMemory → IsPolled p now ret q
    → (polled : Answer) × IsPolledAs polled p now q
reported (poll.WaitUntil time) p q now other is = (answer.Wait time, is)
reported (poll.AllocateTcpSocket id socket peer) p q now other is = (answer.Socket id socket peer, is)
reported (poll.TcpClose here there) p q now other is = (answer.Close here there, is)
reported poll.Closed p q now other is = (answer.Closed, is)
reported poll.NoMemory p q now other is = absurd (other refl)

pub was_polled : (now : ℕ) (ret : TurnPollRet) (old p q : ClientState) → now ≤ 2 ^ 62 → ret ≢ poll.NoMemory
    → IsDrawOf now old p → Leaves (λ (a b : Protocol). IsPolled a now ret b) p q → HasTaken now 0 old q
unfolding IsCallReported IsCalled
was_polled now ret old p q early other so is =
    let r = reported ret p.core q.core now other is.0 in
    let part : Pairs = (Call Poll now, r.0) ∷ [] in
    record {
      draws = so.draws;
      by_draw = so.by_draw;
      polled = r.0;
      takes = [];
      parts = NoPart;
      run = then_on so.draws part old p q so.run (called now Poll r.0 p q early (r.1, is.1));
    }

-- Until `poll` was called. If it ran out of memory, no event is queued.
pub polls : (now : ℕ) (ret : TurnPollRet) (old p q : ClientState) → now ≤ 2 ^ 62 → IsDrawOf now old p
    → Leaves (λ (a b : Protocol). IsPolled a now ret b) p q
    → ((ret ≡ poll.NoMemory) × (q.core.events ≡ []) × (◌≡◌ {A = ℕ} 0 0)) ⊎ HasTaken now 0 old q
polls now poll.NoMemory old p q early so is = inl (refl, is.0.failed.events ∙ is.0.no_event, refl)
polls now (poll.WaitUntil time) old p q early so is =
    inr (was_polled now (poll.WaitUntil time) old p q early (λ e. Prim.cc e) so is)
polls now (poll.AllocateTcpSocket id socket peer) old p q early so is =
    inr (was_polled now (poll.AllocateTcpSocket id socket peer) old p q early (λ e. Prim.cc e) so is)
polls now (poll.TcpClose here there) old p q early so is =
    inr (was_polled now (poll.TcpClose here there) old p q early (λ e. Prim.cc e) so is)
polls now poll.Closed old p q early so is =
    inr (was_polled now poll.Closed old p q early (λ e. Prim.cc e) so is)

-- `poll_event` was called.
abbrev pub Takes : ClientState → ClientState → Type 0
Takes p q = Leaves (λ (a b : Protocol). b ≡ record a { events = b.events }) p q

-- An event was answered by a call.
pub record IsAnswered (now : ℕ) (old new : ClientState) : Type 0 where
  pub call : ClientCall
  pub ret : Answer
  pub is_response : IsResponse call
  pub is : IsCallReported call ret old now new

pub one_taken : (now many : ℕ) (old p q r : ClientState) (event : TurnEvent) → now ≤ 2 ^ 62 → HasTaken now many old p
    → p.core.events ≡ option_to_list (Some event) ++ q.core.events → Takes p q → IsAnswered now q r
    → HasTaken now (many + 1) old r
unfolding IsCallReported IsCalled
one_taken now many old p q r event early so first others answered =
    let pair : Event × Answer = (Call PollEvent now, answer.Event event) in
    let part : Pairs = pair ∷ (Call answered.call now, answered.ret) ∷ [] in
    let took = called now PollEvent (answer.Event event) p q early ((first, others.0), others.1) in
    let done = called now answered.call answered.ret q r early answered.is in
    let both = then_on (pair ∷ []) ((Call answered.call now, answered.ret) ∷ []) p q r took done in
    record {
      draws = so.draws;
      by_draw = so.by_draw;
      polled = so.polled;
      takes = so.takes ++ part;
      parts = OneMore so.parts (Answered event answered.call answered.ret answered.is_response refl);
      run = subst (λ (l : Pairs). IsRunOfClient l old r)
          (append_assoc so.draws ((Call Poll now, so.polled) ∷ so.takes) part)
          (then_on (so.draws ++ (Call Poll now, so.polled) ∷ so.takes) part old p r so.run both);
    }

-- No event is left.
pub all_taken : (now many : ℕ) (old p q : ClientState) → now ≤ 2 ^ 62 → HasTaken now many old p
    → p.core.events ≡ [] → p.core.events ≡ q.core.events → Takes p q → HasTakenTurn now old q
unfolding IsCallReported IsCalled
all_taken now many old p q early so no_event first others =
    let part : Pairs = (Call PollEvent now, answer.Nothing) ∷ [] in
    let same = others.0 ∙ ap (λ (es : List TurnEvent). record p.core { events = es }) (sym first) in
    let took = called now PollEvent answer.Nothing p q early ((no_event, same), others.1) in
    record {
      pairs = so.draws ++ (Call Poll now, so.polled) ∷ (so.takes ++ part);
      turn = record {
        draws = so.draws;
        by_draw = so.by_draw;
        polled = so.polled;
        takes = so.takes ++ part;
        taken = UpToNothing many so.takes so.parts refl;
        are_all = refl;
      };
      run = subst (λ (l : Pairs). IsRunOfClient l old q)
          (append_assoc so.draws ((Call Poll now, so.polled) ∷ so.takes) part)
          (then_on (so.draws ++ (Call Poll now, so.polled) ∷ so.takes) part old p q so.run took);
    }

pub limit_taken : (now many : ℕ) (old p : ClientState) → many + 1 ≡ 2 ^ 64 → HasTaken now many old p → HasTakenTurn now old p
limit_taken now many old p last so = record {
  pairs = so.draws ++ (Call Poll now, so.polled) ∷ so.takes;
  turn = record {
    draws = so.draws;
    by_draw = so.by_draw;
    polled = so.polled;
    takes = so.takes;
    taken = UpToLimit many so.parts last;
    are_all = refl;
  };
  run = so.run;
}

-- ---- the calls that answer an event

pub permission_asked : (now : ℕ) (transport : TransportType) (ip : IpAddr) (p q : ClientState)
    → Leaves (λ (a b : Protocol). IsPermissionAnswered a transport ip now (Ok tt) b) p q → IsAnswered now p q
unfolding IsCallReported IsCalled
permission_asked now transport ip p q is =
    record { call = CreatePermission transport ip; ret = answer.Done; is_response = tt; is = is }

pub channel_asked : (now : ℕ) (transport : TransportType) (peer : SocketAddr) (p q : ClientState)
    → Leaves (λ (a b : Protocol). IsBindAnswered a transport peer now (Ok tt) b) p q → IsAnswered now p q
unfolding IsCallReported IsCalled
channel_asked now transport peer p q is =
    record { call = BindChannel transport peer; ret = answer.Done; is_response = tt; is = is }

pub end_asked : (now : ℕ) (p q : ClientState) → Leaves (λ (a b : Protocol). IsDeleteAnswered a now (Ok tt) b) p q
    → IsAnswered now p q
unfolding IsCallReported IsCalled
end_asked now p q is = record { call = Delete; ret = answer.Done; is_response = tt; is = is }

-- Bytes as a vector has them, and as a message has them.
vec_of : (alloc : Global) (bytes : List ℕ) → length bytes < 2 ^ 63 → (v : Vec ℕ Global) × (v.items ≡ bytes)
vec_of alloc bytes small = (
  record {
    ptr = null_ptr;
    len = length bytes;
    cap = length bytes;
    alloc = alloc;
    items = bytes;
    ok = (refl, omega arith);
    small = small;
  },
  refl,
)

data_of : (bytes : List ℕ) → (d : Data) × (data_bytes d ≡ bytes)
data_of bytes = (Borrowed (record { 0 = record { ref_ptr = (0, 0); now = bytes } }), refl)

pub bytes_sent : (alloc : Global) (now : ℕ) (transport : TransportType) (to : SocketAddr) (bytes : List ℕ) (sent : Sent)
    (p q : ClientState) → length bytes < 2 ^ 63
    → Leaves (λ (a b : Protocol). IsSendAnswered a transport to bytes now (Ok (Some sent)) b) p q → IsAnswered now p q
unfolding IsCallReported IsCalled vec_of data_of
bytes_sent alloc now transport to bytes sent p q small is =
    let v = vec_of alloc bytes small in
    let d = data_of sent.bytes in
    record {
      call = SendTo transport to v.0;
      ret = answer.Transmit (record { bytes = d.0; transport = sent.transport; from = sent.from; to = sent.to });
      is_response = tt;
      is = (is.0, is.1);
    }

-- The same, by what `send_to` returned.
pub bytes_built : {T : Type 0} (f : T → Sent) (made : Option T) (sending : T) → made ≡ Some sending → (alloc : Global)
    (now : ℕ) (transport : TransportType) (to : SocketAddr) (bytes : List ℕ) (p q : ClientState) → length bytes < 2 ^ 63
    → Leaves (λ (a b : Protocol). IsSendAnswered a transport to bytes now (Ok (option_map f made)) b) p q
    → IsAnswered now p q
bytes_built {T} f made sending made_is alloc now transport to bytes p q small is =
    bytes_sent alloc now transport to bytes (f sending) p q small (subst (λ (o : Option T).
    Leaves (λ (a b : Protocol). IsSendAnswered a transport to bytes now (Ok (option_map f o)) b) p q) made_is is)

-- `send_to` never succeeds with nothing to send.
module _ (old new : Protocol) (to : SocketAddr) (bytes : List ℕ) where
  passed : (found : Option Connection) → IsPassedOn found old bytes (Ok None) new → ⊥
  passed None is = is
  passed (Some connection) is = Prim.cc is.0

  over : (transport : TransportType) (now : ℕ) → IsSentOver transport old to bytes now (Ok None) new → ⊥
  over Udp now is = always_sent old to bytes new (standing now (channel_to Udp to old.allocations)) is
  over Tcp now is = passed (connection_to Tcp to old.allocations) is

  refused : (transport : TransportType) (now : ℕ) (refusal : Option SendError)
      → MatchOption refusal (IsSentOver transport old to bytes now (Ok None) new)
      (λ (error : SendError). (◌≡◌ {A = Result (Option Sent) SendError} (Ok None) (Err error)) × (new ≡ old)) → ⊥
  refused transport now None is = over transport now is
  refused transport now (Some error) is = Prim.cc is.0

  pub never_nothing : (transport : TransportType) (now : ℕ) → IsSendAnswered old transport to bytes now (Ok None) new → ⊥
  never_nothing transport now is = refused transport now (send_refusal transport old to bytes) is

  -- The same, by what `send_to` returned.
  pub none_built : {T : Type 0} (f : T → Sent) (made : Option T) → made ≡ None → (transport : TransportType) (now : ℕ)
      → IsSendAnswered old transport to bytes now (Ok (option_map f made)) new → ⊥
  none_built {T} f made made_is transport now is = never_nothing transport now (subst (λ (o : Option T).
      IsSendAnswered old transport to bytes now (Ok (option_map f o)) new) made_is is)
