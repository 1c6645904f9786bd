-- What an event of a simulation is for its client, over either transport.
use Rattle.std.proofs.Common.{◌≡◌, ℕ, ◌≤◌, ◌^◌, Bool, true, false, List, [], Option, Some, None, refl, sym, ap, ◌∙◌, subst, ◌⊎◌, inl, inr}
use Rattle.std.specs.Prelude.{option_to_list}
use Rattle.std.specs.Bool.{MatchBool}
use Rattle.std.proofs.lemmas.Bool.{le-leb}
use Rattle.turn_client_proto_api.specs.declared.answer.TurnPollRet.{TurnPollRet}
use Rattle.turn_client_proto_api.specs.declared.answer.TurnPollRet.TheVariants as poll
use Rattle.turn_client_proto_api.specs.declared.event.TurnEvent.{TurnEvent}
use Rattle.turn_client_proto_step_laws.specs.Recv.Control.{Control}
use Rattle.turn_client_proto_step_laws.specs.Timers.Drawing.{IsTransmitted}
use Rattle.turn_client_proto_api.specs.Sent.{Sent, sent_of}
use Rattle.turn_client_proto_handshake_laws.specs.Driving.{IsEventTaken}
use Rattle.turn_client_proto_step_laws.specs.Recv.ClientState.{ClientState, Protocol}
use Rattle.turn_client_proto_step_laws.specs.Timers.Polling.{IsPolled}
use Rattle.turn_desk_event.specs.declared.answer.Answer.{Answer}
use Rattle.turn_desk_event.specs.declared.answer.Answer.TheVariants as answer
use Rattle.turn_desk_event.specs.declared.event.ClientCall.{ClientCall}
use Rattle.turn_desk_event.specs.declared.event.ClientCall.TheVariants as call
use Rattle.turn_desk_event.specs.declared.event.Event.TheVariants.{Call, Draw}
use Rattle.turn_desk_world_laws.specs.World.Calls.{IsCallReported, IsCalled, IsTransmittedAs, IsEventReported, IsPolledAs}
use Rattle.turn_desk_world_laws.specs.World.Model.{World}
use Rattle.turn_desk_world_laws.specs.World.Runs.{IsAtClient, IsInRange, IsOfClient, IsStep, is_in_range}
use Rattle.turn_desk_progress_laws.specs.Promises.{event_in, over}
use Rattle.turn_desk_progress_laws.specs.Scripts.{IsLook}

-- ---- where something happens to the client, and where nothing does

-- The call had this effect, or the time is out of range.
pub record IsDone (c : Control) (now : ℕ) (Does : ClientState → ClientState → Type 0) (p : Protocol) (ret : Answer) (new : Option ClientState) : Type 0 where
  pub after : ClientState
  pub there : new ≡ Some after
  pub outcome : ((is_in_range now ≡ true) × Does (over c p) after) ⊎ ((ret ≡ answer.OutOfRange) × (after ≡ over c p) × (is_in_range now ≡ false))

in_range : (now : ℕ) (Does : ClientState → ClientState → Type 0) (p q : ClientState) (ret : Answer) (within : Bool) → is_in_range now ≡ within → MatchBool within (Does p q) ((ret ≡ answer.OutOfRange) × (q ≡ p))
    → ((is_in_range now ≡ true) × Does p q) ⊎ ((ret ≡ answer.OutOfRange) × (q ≡ p) × (is_in_range now ≡ false))
in_range now Does p q ret true so is = inl (so, is)
in_range now Does p q ret false so is = inr (is.0, is.1, so)

pub done : (c : Control) (now : ℕ) (Does : ClientState → ClientState → Type 0) (p : Protocol) (old new : Option ClientState) (ret : Answer) → old ≡ Some (over c p) → IsAtClient now Does old ret new → IsDone c now Does p ret new
unfolding IsAtClient IsInRange
done c now Does p old new ret at is = by new (subst (λ (o : Option ClientState). IsAtClient now Does o ret new) at is)
  where
    by : (new : Option ClientState) → IsAtClient now Does (Some (over c p)) ret new → IsDone c now Does p ret new
    by None is = absurd is
    by (Some q) is = record { after = q; there = refl; outcome = in_range now Does (over c p) q ret (is_in_range now) refl is }

pub within : (now : ℕ) → now ≤ 2 ^ 62 → is_in_range now ≡ true
within now early = le-leb now (2 ^ 62) early

-- It had this effect if the time is in range.
pub done_so : (c : Control) (now : ℕ) (Does : ClientState → ClientState → Type 0) (p : Protocol) (ret : Answer) (new : Option ClientState) → now ≤ 2 ^ 62 → (is : IsDone c now Does p ret new) → Does (over c p) is.after
done_so c now Does p ret new early is = elim is.outcome [
  | inl does ↦ does.1
  | inr out ↦ absurd (Prim.cc (sym (within now early) ∙ out.2))
]

-- A client whose control stays unchanged.
pub stays : (c : Control) (q : ClientState) → q.control ≡ c → q ≡ over c q.core
stays c q at = ap (λ (k : Control). record { core = q.core; control = k }) at

-- If nothing but the client may have changed, the server core is unchanged.
pub same_desk : (w v : World) → IsOfClient w v → v.desk ≡ w.desk
same_desk w v is = ap (λ (x : World). x.desk) is

-- If the client is unchanged too, nothing has changed.
pub same_world : (w v : World) → IsOfClient w v → v.client ≡ w.client → v ≡ w
same_world w v is same = is ∙ ap (λ (o : Option ClientState). record w { client = o }) same

-- ---- a draw

pub record IsTransmittedOn (c : Control) (p : Protocol) (now : ℕ) (ret : Answer) (w v : World) : Type 0 where
  pub core : Protocol
  pub there : v.client ≡ Some (over c core)
  pub transmitted : IsTransmittedAs ret p now core
  pub desk : v.desk ≡ w.desk

pub draws : (c : Control) (w v : World) (p : Protocol) (now : ℕ) (ret : Answer) → w.client ≡ Some (over c p) → now ≤ 2 ^ 62 → IsStep (Draw now) w ret v → IsTransmittedOn c p now ret w v
draws c w v p now ret at early step =
    let d = done c now _ p w.client v.client ret at step.0 in
    let is = done_so c now _ p ret v.client early d in
    record { core = d.after.core; there = d.there ∙ ap Some (stays c d.after is.1); transmitted = is.0; desk = same_desk w v step.1 }

-- If nothing is transmitted, the result gives nothing.
pub nothing_transmitted : (p q : Protocol) (now : ℕ) (ret : Answer) → ((sent : Option Sent) (q : Protocol) → IsTransmitted p now sent q → (sent ≡ None) × (q ≡ p)) → IsTransmittedAs ret p now q → (ret ≡ answer.Nothing) × (q ≡ p)
unfolding IsTransmittedAs
nothing_transmitted p q now (answer.Transmit sent) none is = absurd (Prim.cc (none (Some (sent_of sent)) q is).0)
nothing_transmitted p q now answer.Nothing none is = (refl, (none None q is).1)
nothing_transmitted p q now _ none is = absurd is

-- ---- a look

-- An event was polled, or nothing was done.
pub data IsLooked (p : Protocol) (ret : Answer) (q : Protocol) : Type 0 where
  Took : (event : Option TurnEvent) → IsEventTaken p event q → event_in ret ≡ option_to_list event → IsLooked p ret q
  Still : q ≡ p → event_in ret ≡ [] → IsLooked p ret q

event_taken : (p q : Protocol) (ret : Answer) → IsEventReported ret p q → IsLooked p ret q
event_taken p q (answer.Event event) is = Took (Some event) (record { first = is.0; none = tt; others = is.1 }) refl
event_taken p q answer.Nothing is = Took None (record { first = ap (λ (x : Protocol). x.events) (sym is.1); none = is.0; others = is.1 ∙ ap (λ (l : List TurnEvent). record p { events = l }) (ap (λ (x : Protocol). x.events) (sym is.1)) }) refl
event_taken p q _ is = absurd is

looked : (what : ClientCall) (p q : Protocol) (now : ℕ) (ret : Answer) → IsLook what → IsCalled what ret p now q → IsLooked p ret q
unfolding IsCalled
looked call.PollEvent p q now ret look is = event_taken p q ret is
looked (call.HavePermission transport ip) p q now (answer.Have has) look is = Still is.1 refl
looked (call.Permissions transport relayed) p q now (answer.Permissions list) look is = Still is.1 refl
looked call.Channels p q now (answer.Channels list) look is = Still is.1 refl
looked call.Connections p q now (answer.Connections list) look is = Still is.1 refl
looked call.RelayedAddresses p q now (answer.Relayed list) look is = Still is.1 refl
looked (call.HavePermission transport ip) p q now _ look is = absurd is
looked (call.Permissions transport relayed) p q now _ look is = absurd is
looked call.Channels p q now _ look is = absurd is
looked call.Connections p q now _ look is = absurd is
looked call.RelayedAddresses p q now _ look is = absurd is
looked _ p q now ret look is = absurd look

look_reported : (c : Control) (what : ClientCall) (p : Protocol) (q : ClientState) (now : ℕ) (ret : Answer) → IsLook what → IsCallReported what ret (over c p) now q → IsLooked p ret q.core × (q.control ≡ c)
unfolding IsCallReported
look_reported c call.PollEvent p q now ret look is = (looked call.PollEvent p q.core now ret look is.0, is.1)
look_reported c (call.HavePermission transport ip) p q now ret look is = (looked (call.HavePermission transport ip) p q.core now ret look is.0, is.1)
look_reported c (call.Permissions transport relayed) p q now ret look is = (looked (call.Permissions transport relayed) p q.core now ret look is.0, is.1)
look_reported c call.Channels p q now ret look is = (looked call.Channels p q.core now ret look is.0, is.1)
look_reported c call.Connections p q now ret look is = (looked call.Connections p q.core now ret look is.0, is.1)
look_reported c call.RelayedAddresses p q now ret look is = (looked call.RelayedAddresses p q.core now ret look is.0, is.1)
look_reported c _ p q now ret look is = absurd look

pub record IsLookedOn (c : Control) (p : Protocol) (ret : Answer) (w v : World) : Type 0 where
  pub core : Protocol
  pub there : v.client ≡ Some (over c core)
  pub looked : IsLooked p ret core
  pub of : IsOfClient w v

pub looks : (c : Control) (w v : World) (p : Protocol) (what : ClientCall) (now : ℕ) (ret : Answer) → w.client ≡ Some (over c p) → IsLook what → IsStep (Call what now) w ret v → IsLookedOn c p ret w v
looks c w v p what now ret at look step =
    let d = done c now _ p w.client v.client ret at step.0 in
    elim d.outcome [
      | inl does ↦ (let is = look_reported c what p d.after now ret look does.1 in
          record { core = d.after.core; there = d.there ∙ ap Some (stays c d.after is.1); looked = is.0; of = step.1 })
      | inr out ↦ record { core = p; there = d.there ∙ ap Some out.1; looked = Still refl (ap event_in out.0); of = step.1 }
    ]

-- ---- a poll

-- `poll` was called, or nothing was done.
pub data IsPolledOr (p : Protocol) (now : ℕ) (ret : Answer) (q : Protocol) : Type 0 where
  Polled : (r : TurnPollRet) → IsPolled p now r q → IsPolledOr p now ret q
  OutOf : q ≡ p → IsPolledOr p now ret q

polled_as : (p q : Protocol) (now : ℕ) (ret : Answer) → IsPolledAs ret p now q → IsPolledOr p now ret q × (event_in ret ≡ [])
polled_as p q now (answer.Wait time) is = (Polled (poll.WaitUntil time) is, refl)
polled_as p q now (answer.Socket id socket peer) is = (Polled (poll.AllocateTcpSocket id socket peer) is, refl)
polled_as p q now (answer.Close local remote) is = (Polled (poll.TcpClose local remote) is, refl)
polled_as p q now answer.Closed is = (Polled poll.Closed is, refl)
polled_as p q now _ is = absurd is

pub record IsPolledOn (c : Control) (p : Protocol) (now : ℕ) (ret : Answer) (w v : World) : Type 0 where
  pub core : Protocol
  pub there : v.client ≡ Some (over c core)
  pub polled : IsPolledOr p now ret core
  pub silent : event_in ret ≡ []
  pub of : IsOfClient w v

poll_reported : (c : Control) (p : Protocol) (q : ClientState) (now : ℕ) (ret : Answer) → IsCallReported call.Poll ret (over c p) now q → IsPolledAs ret p now q.core × (q.control ≡ c)
unfolding IsCallReported IsCalled
poll_reported c p q now ret is = is

pub polls : (c : Control) (w v : World) (p : Protocol) (now : ℕ) (ret : Answer) → w.client ≡ Some (over c p) → IsStep (Call call.Poll now) w ret v → IsPolledOn c p now ret w v
polls c w v p now ret at step =
    let d = done c now _ p w.client v.client ret at step.0 in
    elim d.outcome [
      | inl does ↦ (let is = poll_reported c p d.after now ret does.1 in let so = polled_as p d.after.core now ret is.0 in
          record { core = d.after.core; there = d.there ∙ ap Some (stays c d.after is.1); polled = so.0; silent = so.1; of = step.1 })
      | inr out ↦ record { core = p; there = d.there ∙ ap Some out.1; polled = OutOf refl; silent = ap event_in out.0; of = step.1 }
    ]

-- `poll` was called in range, with this result.
pub polled_so : (c : Control) (w v : World) (p : Protocol) (now : ℕ) (ret : Answer) → w.client ≡ Some (over c p) → now ≤ 2 ^ 62 → IsStep (Call call.Poll now) w ret v → (q : Protocol) × IsPolledAs ret p now q
polled_so c w v p now ret at early step =
    let d = done c now _ p w.client v.client ret at step.0 in
    (d.after.core, (poll_reported c p d.after now ret (done_so c now _ p ret v.client early d)).0)

-- ---- where nothing has changed

pub record Rests (ret : Answer) (w v : World) : Type 0 where
  pub same : v ≡ w
  pub silent : event_in ret ≡ []

-- A getter or `poll_event` of a client with no event queued.
pub look_rests : (c : Control) (w v : World) (p : Protocol) (what : ClientCall) (now : ℕ) (ret : Answer) → w.client ≡ Some (over c p)
    → ((event : Option TurnEvent) (q : Protocol) → IsEventTaken p event q → (event ≡ None) × (q ≡ p)) → IsLook what → IsStep (Call what now) w ret v → Rests ret w v
look_rests c w v p what now ret at none look step =
    let l = looks c w v p what now ret at look step in
    by l l.looked
  where
    by : (l : IsLookedOn c p ret w v) → IsLooked p ret l.core → Rests ret w v
    by l (Took event taken reported) =
        let n = none event l.core taken in
        record { same = same_world w v l.of (l.there ∙ ap (λ (x : Protocol). Some (over c x)) n.1 ∙ sym at); silent = reported ∙ ap option_to_list n.0 }
    by l (Still same reported) = record { same = same_world w v l.of (l.there ∙ ap (λ (x : Protocol). Some (over c x)) same ∙ sym at); silent = reported }

-- A call of `poll` that changes nothing.
pub poll_rests : (c : Control) (w v : World) (p : Protocol) (now : ℕ) (ret : Answer) → w.client ≡ Some (over c p)
    → ((r : TurnPollRet) (q : Protocol) → IsPolled p now r q → q ≡ p) → IsStep (Call call.Poll now) w ret v → Rests ret w v
poll_rests c w v p now ret at none step =
    let l = polls c w v p now ret at step in
    by l l.polled
  where
    by : (l : IsPolledOn c p now ret w v) → IsPolledOr p now ret l.core → Rests ret w v
    by l (Polled r is) = record { same = same_world w v l.of (l.there ∙ ap (λ (x : Protocol). Some (over c x)) (none r l.core is) ∙ sym at); silent = l.silent }
    by l (OutOf same) = record { same = same_world w v l.of (l.there ∙ ap (λ (x : Protocol). Some (over c x)) same ∙ sym at); silent = l.silent }

-- A call of `poll_transmit` that gives nothing, and changes nothing.
pub draw_rests : (c : Control) (w v : World) (p : Protocol) (now : ℕ) (ret : Answer) → w.client ≡ Some (over c p)
    → ((sent : Option Sent) (q : Protocol) → IsTransmitted p now sent q → (sent ≡ None) × (q ≡ p)) → IsStep (Draw now) w ret v → Rests ret w v
draw_rests c w v p now ret at none step =
    let d = done c now _ p w.client v.client ret at step.0 in
    elim d.outcome [
      | inl does ↦ (let n = nothing_transmitted p d.after.core now ret none does.1.0 in record { same = same_world w v step.1 (d.there ∙ ap Some (stays c d.after does.1.1) ∙ ap (λ (x : Protocol). Some (over c x)) n.1 ∙ sym at); silent = ap event_in n.0 })
      | inr out ↦ record { same = same_world w v step.1 (d.there ∙ ap Some out.1 ∙ sym at); silent = ap event_in out.0 }
    ]
