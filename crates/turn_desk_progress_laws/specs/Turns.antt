-- A client that holds an allocation, and with which nothing is done but what keeps it. It is polled, no later
-- than it waits for, and its getters are called; and a REFRESH of its own reaches the server core, whose
-- success response reaches the client (RFC 8656, section 8).
use Rattle.std.specs.Prelude.{◌≡◌, ◌≤◌, ◌<◌, ◌+◌, ◌-◌, ◌*◌, ℕ, max, nat_lt, Bool, true, false, not, ◌&&◌, ◌||◌, if◌then◌else◌}
use Rattle.std.specs.Prelude.{List, [], ◌∷◌, ◌++◌, Vec}
use Rattle.std.specs.declared.alloc.Global.{Global}
use Rattle.turn_desk_core.specs.StunTypesWire.Attributes.{kind_at}
use Rattle.turn_desk_core.specs.StunTypesWire.declared.class.MessageClass.TheVariants.{Success}
use Rattle.turn_desk_core.specs.StunTypesWire.Types.{class_of}
use Rattle.turn_desk_event.specs.StunProtoTransaction.Schedule.{end_at}
use Rattle.turn_client_proto_api.specs.Sent.{Sent, sent_of}
use Rattle.turn_client_proto_handshake_laws.specs.Driving.{client_end}
use Rattle.turn_desk_event.specs.declared.answer.Answer.{Answer}
use Rattle.turn_desk_event.specs.declared.answer.Answer.TheVariants as answer
use Rattle.turn_desk_core.specs.declared.decision.Decision.TheVariants as by
use Rattle.turn_desk_event.specs.declared.event.ClientCall.{ClientCall}
use Rattle.turn_desk_event.specs.declared.event.ClientCall.TheVariants as call
use Rattle.turn_desk_event.specs.declared.event.Event.{Event}
use Rattle.turn_desk_event.specs.declared.event.Event.TheVariants.{Call, Draw, ToClient, ToDesk}
use Rattle.turn_desk_progress_laws.specs.Scripts.{BringsOn, IsLook, Plan}

-- A second, in nanoseconds.
abbrev pub second : ℕ
second = 1_000_000_000

-- The least lifetime, in seconds, to which the theorems apply.
abbrev pub least : ℕ
least = 600

-- A minute before the end of a lifetime, in seconds, that was granted at `from`.
abbrev pub due : (from lifetime : ℕ) → ℕ
due from lifetime = from + lifetime * second - 60 * second

-- ---- where it is

-- What is known of a client that holds an allocation.
pub record Watch : Type 0 where
  -- The allocation was granted at this time, for this many seconds.
  pub from : ℕ
  pub lifetime : ℕ
  -- The latest time for which the client said that it waits. `poll` and `poll_transmit` are called no later.
  pub until : ℕ
  -- Nothing more is to be transmitted at that time (`transmitted`), and no event is queued (`reported`).
  pub transmitted : Bool
  pub reported : Bool
  -- What the client transmitted earlier than a minute before the end.
  pub early : List Sent

pub data Turn : Type 0 where
  Watching : (s : Watch) → Turn
  -- It transmitted a message at this time, a minute before the end or later.
  Refreshing : (request : Sent) (from lifetime now : ℕ) → Turn
  -- The server core has granted it this many seconds at that time, and these first bytes of the reply reached
  -- the client so far.
  Renewing : (request : Sent) (reply head : List ℕ) (lifetime now : ℕ) → Turn
  -- The client returned a result that it must not return.
  Off : Turn

-- An allocation was granted at `from`, and the client is known to wait for `until`.
abbrev pub watching : (from lifetime until : ℕ) → Turn
watching from lifetime until = Watching (record {
  from = from;
  lifetime = lifetime;
  until = until;
  transmitted = false;
  reported = false;
  early = [];
})

-- Once the allocation is granted again, the client may be polled at any time up to a minute before the new
-- end.
abbrev pub renewed : (lifetime now : ℕ) → Turn
renewed lifetime now = watching now lifetime (due now lifetime)

-- ---- where a result leads

-- A message that is transmitted is early, or comes a minute before the end or later. Nothing is transmitted
-- at the time for which the client waits, or before.
abbrev pub transmitted_at : Watch → (now : ℕ) → Answer → Turn
transmitted_at s now (answer.Transmit transmit) = if nat_lt now (due s.from s.lifetime)
    then Watching (record s { transmitted = false; early = s.early ++ sent_of transmit ∷ [] })
    else Refreshing (sent_of transmit) s.from s.lifetime now
transmitted_at s now answer.Nothing = Watching (record s { transmitted = s.transmitted || not (nat_lt now s.until) })
transmitted_at s now _ = Off

-- The client's events were polled, and so were its messages up to `now`.
abbrev pub is_quiet : Watch → (now : ℕ) → Bool
is_quiet s now = s.reported && (s.transmitted || nat_lt now s.until)

-- The client waits for a time. If nothing is left to be polled, it is later than now.
abbrev pub polled_at : Watch → (now : ℕ) → Answer → Turn
polled_at s now (answer.Wait time) = if is_quiet s now && not (nat_lt now time) then Off
    else Watching (record s { until = max s.until time; transmitted = false; reported = false })
polled_at s now _ = Off

-- No event is queued any more.
abbrev pub looked_at : ClientCall → Answer → Turn → Turn
looked_at call.PollEvent answer.Nothing (Watching s) = Watching (record s { reported = true })
looked_at _ _ at = at

-- The rest of a reply has come, or more of it.
abbrev pub brought : Sent → (reply head rest : List ℕ) → (lifetime now : ℕ) → Turn
brought request reply head [] lifetime now = renewed lifetime now
brought request reply head (byte ∷ rest) lifetime now = Renewing request reply head lifetime now

-- ---- what comes

-- What the client transmitted at `now` is not answered yet.
abbrev pub IsUnderWay : Turn → (now : ℕ) → Type 0
IsUnderWay (Watching s) now = ⊥
IsUnderWay (Refreshing request from lifetime at) now = now ≡ at
IsUnderWay (Renewing request reply head lifetime at) now = now ≡ at
IsUnderWay Off now = ⊥

-- What happens at a turn, and where its result leads.
pub data Drives (plan : Plan) (at : Turn) (event : Event) (ret : Answer) (next : Turn) : Type 0 where
  Draws : (s : Watch) (now : ℕ) → at ≡ Watching s → now ≤ s.until → now ≤ client_end → event ≡ Draw now
      → next ≡ transmitted_at s now ret → Drives plan at event ret next
  Polls : (s : Watch) (now : ℕ) → at ≡ Watching s → now ≤ s.until → now ≤ client_end → event ≡ Call call.Poll now
      → next ≡ polled_at s now ret → Drives plan at event ret next
  -- Until what it transmitted is answered, `poll_transmit` may be called at that time; and `poll`, if the
  -- request's schedule isn't over at once.
  DrawsOn : (now : ℕ) → IsUnderWay at now → event ≡ Draw now → next ≡ at → Drives plan at event ret next
  PollsOn : (now : ℕ) → IsUnderWay at now → now < end_at now plan.client.config.waits → event ≡ Call call.Poll now
      → next ≡ at → Drives plan at event ret next
  -- At any turn the client's events may be polled and its getters called.
  Looks : (what : ClientCall) (now : ℕ) → IsLook what → event ≡ Call what now → next ≡ looked_at what ret at
      → Drives plan at event ret next
  -- At any turn `poll_recv` may be called.
  Receives : (now : ℕ) → event ≡ Call call.PollRecv now → next ≡ at → Drives plan at event ret next
  -- What the client transmitted reaches the server core unaltered from where it was sent, at that time. The
  -- server core grants it as many seconds as are decided, which are ten minutes or more: its reply is a
  -- success response.
  Grants : (request : Sent) (from lifetime now more : ℕ) (bytes reply : Vec ℕ Global) (seed : List ℕ)
      → at ≡ Refreshing request from lifetime now → bytes.items ≡ request.bytes → least ≤ more
      → event ≡ ToDesk bytes request.from now (by.Refresh more) seed → ret ≡ answer.Reply reply
      → class_of (kind_at reply.items) ≡ Success → next ≡ Renewing request reply.items [] more now
      → Drives plan at event ret next
  -- The reply reaches the client at that time, over UDP in one datagram, over TCP in any chunks.
  Gives : (request : Sent) (reply head rest : List ℕ) (lifetime now : ℕ) (bytes : Vec ℕ Global)
      → at ≡ Renewing request reply head lifetime now → BringsOn plan.client.transport reply head bytes.items rest
      → event ≡ ToClient bytes request.to request.from now
      → next ≡ brought request reply (head ++ bytes.items) rest lifetime now → Drives plan at event ret next

-- The events and results lead from one turn to another.
unfoldable pub IsDriven : Plan → Turn → List (Event × Answer) → Turn → Type 0
IsDriven plan at [] last = last ≡ at
IsDriven plan at (pair ∷ pairs) last =
    (next : Turn) × Drives plan at pair.0 pair.1 next × IsDriven plan next pairs last
