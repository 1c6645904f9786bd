-- What calls and draws do to a client's queue.
use Rattle.std.proofs.Common.{◌≡◌, ◌≢◌, ℕ, zero, suc, ◌+◌, ◌≤◌, arith, Bool, true, false, not, length, take, drop, List, [], ◌∷◌, ◌++◌, Option, Some, None, refl, sym, ap, ◌∙◌, subst, ◌⊎◌, inl, inr, append-nil, append_assoc}
use Rattle.std.specs.Prelude.{MatchOption, MatchResult, IfNone, IfSome, Result, Ok, Err, find}
use Rattle.std.specs.List.{list_any, position_or_len}
use Rattle.std.specs.declared.net.ip_addr.IpAddr.{IpAddr}
use Rattle.std.specs.declared.net.socket_addr.SocketAddr.{SocketAddr}
use Rattle.std.proofs.lemmas.Bool.{cases_Bool, le-ltb}
use Rattle.turn_client_proto_messages.specs.StunTypesBase.declared.transport.TransportType.{TransportType}
use Rattle.turn_client_proto_messages.specs.Allocation.Changes.{without_first}
use Rattle.turn_client_proto_messages.specs.Allocation.declared.allocation.Allocation.{Allocation}
use Rattle.turn_client_proto_messages.specs.Allocation.declared.connection.Waiting.{Waiting}
use Rattle.turn_client_proto_messages.specs.Api.declared.answer.TurnPollRet.{TurnPollRet}
use Rattle.turn_client_proto_messages.specs.Api.declared.answer.TurnPollRet.TheVariants as poll
use Rattle.turn_client_proto_messages.specs.Api.declared.error.BindChannelError.{BindChannelError}
use Rattle.turn_client_proto_messages.specs.Api.declared.error.BindChannelError.TheVariants as not_bound
use Rattle.turn_client_proto_messages.specs.Api.declared.error.CreatePermissionError.{CreatePermissionError}
use Rattle.turn_client_proto_messages.specs.Api.declared.error.CreatePermissionError.TheVariants as not_permitted
use Rattle.turn_client_proto_messages.specs.Api.declared.event.TurnEvent.{TurnEvent}
use Rattle.turn_client_proto_messages.specs.Api.Sent.{Sent}
use Rattle.turn_client_proto_messages.specs.Waiting.{Queued, is_answer}
use Rattle.turn_client_proto_messages.specs.StunProtoAgent.declared.agent.StunAgentPollRet.{StunAgentPollRet}
use Rattle.turn_client_proto_messages.specs.StunProtoAgent.State as agents
use Rattle.turn_client_proto_step_laws.specs.Connection.Expiring as joined
use Rattle.turn_client_proto_step_laws.specs.Connection.Waiting.{unasked}
use Rattle.turn_client_proto_step_laws.specs.Peers.Permission.Asking.{is_past}
use Rattle.turn_client_proto_step_laws.specs.Timers.Drawing.{Again, Fresh, IsAnswerSent, IsStarted, IsTransmitted, IsNextSent, IsQueuedSent, IsRenewed, IsRepeated, IsRefreshSent, IsChannelRenewalSent, IsRenewalSent, Sends, after_sending, first_bound, first_permitted, first_refreshed, is_resting, sent_at_once}
use Rattle.turn_client_proto_step_laws.specs.Timers.Polling.{Answers, AreAllocationsPolled, IsClosing, IsPolled, IsPolledBy, IsPolledIn, after_asking as after_socket, after_time, answer_of, ended_of, left, socket_for}
use Rattle.turn_client_proto_step_laws.specs.Timers.Wanting.{wanted as to_renew}
use Rattle.turn_client_proto_step_laws.specs.Timers.declared.wanting.Want.{Want}
use Rattle.turn_client_proto_step_laws.specs.Timers.declared.wanting.Want.TheVariants as want
use Rattle.turn_client_proto_handshake_laws.specs.Core.Asking.{queued_request, requested}
use Rattle.turn_client_proto_handshake_laws.specs.Core.Binding.{IsBindAnswered, IsBindTried, IsChannelRequested, after_binding, allocation_to, bind_refusal, bind_refused_in}
use Rattle.turn_client_proto_handshake_laws.specs.Core.Numbering.{after_number}
use Rattle.turn_client_proto_handshake_laws.specs.Core.Permitting.{IsPermissionAnswered, IsPermissionRequested, after_asking as after_permission, allocation_for, permission_refusal, refused_in}
use Rattle.turn_client_proto_handshake_laws.specs.Core.declared.protocol.Phase.{Phase}
use Rattle.turn_client_proto_handshake_laws.specs.Core.declared.protocol.Phase.TheVariants.{Authenticated}
use Rattle.turn_client_proto_handshake_laws.specs.Core.declared.protocol.Protocol.{Protocol}
use Rattle.turn_client_proto_handshake_laws.specs.Driving.{IsEventTaken}
use Rattle.turn_client_proto_handshake_laws.specs.Sent.{Beginning}
use Rattle.turn_client_proto_messages.specs.Requests.{request_text}
use Rattle.turn_client_proto_messages.specs.declared.request.TurnRequest.TheVariants.{ChannelBind, CreatePermission}
use Rattle.turn_client_proto_progress_laws.specs.Asking.{IsMade}
use Rattle.turn_client_proto_progress_laws.specs.Speaking.{Speaks}
use Rattle.turn_client_proto_progress_laws.proofs.Asking.Asks.{made, own_request as permission_own}
use Rattle.turn_client_proto_progress_laws.proofs.Asking.Binds.{bound, own_request as channel_own}
use Rattle.turn_client_proto_messages.specs.StunTypesBase.Times.{time_after}
use Rattle.turn_client_proto_messages.specs.Api.Options.{cadence}
use Rattle.turn_client_proto_step_laws.specs.Timers.Polling.{pace_of}
use Rattle.turn_client_proto_progress_laws.proofs.Asking.Between.{tested}
use Rattle.turn_client_proto_progress_laws.proofs.Asking.Tools.{refused_or}
use Rattle.turn_client_proto_progress_laws.proofs.Asking.Lists.{not_both}
use Rattle.turn_desk_laws.specs.RequestLoops.{HasLastSent, IsOutstanding, IsQueuedAfter}

-- ---- calls

module _ (p : Protocol) where
  -- Messages are queued behind those that were, and none was transmitted.
  pub record IsGrown (q : Protocol) : Type 0 where
    pub extra : List Queued
    pub queue_is : q.queue ≡ p.queue ++ extra
    pub last_is : q.last_send ≡ p.last_send

  pub same_queue : (q : Protocol) → q.queue ≡ p.queue → q.last_send ≡ p.last_send → IsGrown q
  same_queue q queue last = record { extra = []; queue_is = queue ∙ sym (append-nil p.queue); last_is = last }

  pub unchanged_queue : (q : Protocol) → q ≡ p → IsGrown q
  unchanged_queue q same = same_queue q (ap (λ (x : Protocol). x.queue) same) (ap (λ (x : Protocol). x.last_send) same)

  with_allocations : (allocations : List Allocation) → IsGrown (record p { allocations = allocations })
  with_allocations allocations = same_queue (record p { allocations = allocations }) refl refl

  pub taken_queue : (event : Option TurnEvent) (q : Protocol) → IsEventTaken p event q → IsGrown q
  taken_queue event q is = same_queue q (ap (λ (x : Protocol). x.queue) is.others) (ap (λ (x : Protocol). x.last_send) is.others)

  -- ---- `poll`

  module _ (at : ℕ) (on : p.phase ≡ Authenticated) where
    module _ (over : Option ℕ) (agent : agents.Agent) where
      abbrev k : Protocol
      k = record p { agent = agent }

      time_queue : (after_time over at k).queue ≡ p.queue
      unfolding after_time
      time_queue = refl

      time_last : (after_time over at k).last_send ≡ p.last_send
      unfolding after_time
      time_last = refl

      socket_queue : (after_socket k).queue ≡ p.queue
      unfolding after_socket
      socket_queue = refl

      socket_last : (after_socket k).last_send ≡ p.last_send
      unfolding after_socket
      socket_last = refl

      closing_queue : (closing : List SocketAddr) (wish ret : TurnPollRet) (q : Protocol) → IsClosing closing wish (after_time over at k) ret q → IsGrown q
      closing_queue [] wish ret q is = same_queue q (ap (λ (x : Protocol). x.queue) is.1 ∙ time_queue) (ap (λ (x : Protocol). x.last_send) is.1 ∙ time_last)
      closing_queue (here ∷ rest) wish ret q is = same_queue q (ap (λ (x : Protocol). x.queue) is.1 ∙ time_queue) (ap (λ (x : Protocol). x.last_send) is.1 ∙ time_last)

      standing_queue : (found : Option Waiting) (wait : ℕ) (ret : TurnPollRet) (q : Protocol)
          → MatchOption found (AreAllocationsPolled over wait k at ret q) (λ w. Answers (socket_for k w) (after_socket k) ret q) → IsGrown q
      standing_queue None wait ret q is = closing_queue (p.closing ++ joined.all_gone over at (left over at k)) (answer_of (left over at k) over at is.first) ret q is.outcome
      standing_queue (Some w) wait ret q is = same_queue q (ap (λ (x : Protocol). x.queue) is.1 ∙ socket_queue) (ap (λ (x : Protocol). x.last_send) is.1 ∙ socket_last)

      phase_queue : (wait : ℕ) (ret : TurnPollRet) (q : Protocol) → IsPolledIn p.phase over wait k at ret q → IsGrown q
      phase_queue wait ret q is = standing_queue (unasked p.allocations) wait ret q (subst (λ (f : Phase). IsPolledIn f over wait k at ret q) on is)

    events_queue : (events : List TurnEvent) (ret : TurnPollRet) (q : Protocol) → IsPolledBy events p at ret q → IsGrown q
    events_queue (e ∷ events) ret q is = unchanged_queue q is.1
    events_queue [] ret q is = tested (list_any is_answer p.queue) (λ _ x. unchanged_queue q x.1) (λ _ x. phase_queue (ended_of x.ticked) x.agent _ ret q x.outcome) is

    pub polled_queue : (ret : TurnPollRet) (q : Protocol) → ret ≢ poll.NoMemory → IsPolled p at ret q → IsGrown q
    polled_queue ret q ample is = elim (refused_or p at ret q is) [
      | inl by ↦ events_queue p.events ret q by
      | inr refused ↦ absurd (ample refused.0)
    ]

  -- ---- requests

  module _ (at : ℕ) where
    refused_same : (transport : TransportType) (ip : IpAddr) (found : Option Allocation) → IsGrown (refused_in found transport ip at p)
    refused_same transport ip None = unchanged_queue p refl
    refused_same transport ip (Some a) = elim (cases_Bool (is_past at a)) [
      | inl past ↦ rw past (with_allocations _)
      | inr fresh ↦ rw fresh (unchanged_queue p refl)
    ]

    refused_queue : (transport : TransportType) (ip : IpAddr) (found : Option Allocation) (q : Protocol) → q ≡ refused_in found transport ip at p → IsGrown q
    refused_queue transport ip found q is = subst (λ (x : Protocol). IsGrown x) (sym is) (refused_same transport ip found)

    permission_made : (transport : TransportType) (ip : IpAddr) (q : Protocol) → IsPermissionRequested p transport ip [] at q → IsGrown q
    unfolding after_permission requested
    permission_made transport ip q is = record { extra = queued_request p.agent.here (request_text p.auth (CreatePermission (ip ∷ [])) is.number) ∷ []; queue_is = ap (λ (x : Protocol). x.queue) is.after; last_is = ap (λ (x : Protocol). x.last_send) is.after }

    permission_by : (transport : TransportType) (ip : IpAddr) (ret : Result (Unit {0}) CreatePermissionError) (q : Protocol) (refusal : Option CreatePermissionError) → ret ≢ Err not_permitted.NoMemory
        → IfSome refusal (λ error. (ret ≡ Err error) × (q ≡ refused_in (allocation_for transport ip p) transport ip at p))
        → IfNone refusal (MatchResult ret (λ _. IsPermissionRequested p transport ip [] at q) (λ error. (error ≡ not_permitted.NoMemory) × (q ≡ after_number p))) → IsGrown q
    permission_by transport ip ret q (Some error) ample refused made = refused_queue transport ip (allocation_for transport ip p) q refused.1
    permission_by transport ip (Ok done) q None ample refused made = permission_made transport ip q made
    permission_by transport ip (Err error) q None ample refused made = absurd (ample (ap Err made.0))

    pub permission_queue : (transport : TransportType) (ip : IpAddr) (ret : Result (Unit {0}) CreatePermissionError) (q : Protocol) → ret ≢ Err not_permitted.NoMemory → IsPermissionAnswered p transport ip at ret q → IsGrown q
    permission_queue transport ip ret q ample is = permission_by transport ip ret q (permission_refusal p transport ip at) ample is.refused is.requested

    bind_refused_same : (transport : TransportType) (peer : SocketAddr) (found : Option Allocation) → IsGrown (bind_refused_in found transport peer at p)
    bind_refused_same transport peer None = unchanged_queue p refl
    bind_refused_same transport peer (Some a) = elim (cases_Bool (is_past at a)) [
      | inl past ↦ rw past (with_allocations _)
      | inr fresh ↦ rw fresh (unchanged_queue p refl)
    ]

    bind_refused_queue : (transport : TransportType) (peer : SocketAddr) (found : Option Allocation) (q : Protocol) → q ≡ bind_refused_in found transport peer at p → IsGrown q
    bind_refused_queue transport peer found q is = subst (λ (x : Protocol). IsGrown x) (sym is) (bind_refused_same transport peer found)

    channel_made : (transport : TransportType) (peer : SocketAddr) (channel : ℕ) (q : Protocol) → IsChannelRequested p transport peer channel at q → IsGrown q
    unfolding after_binding requested
    channel_made transport peer channel q is = record { extra = queued_request p.agent.here (request_text p.auth (ChannelBind channel peer) is.number) ∷ []; queue_is = ap (λ (x : Protocol). x.queue) is.after; last_is = ap (λ (x : Protocol). x.last_send) is.after }

    channel_by : (transport : TransportType) (peer : SocketAddr) (ret : Result (Unit {0}) BindChannelError) (q : Protocol) (free : Option ℕ) → ret ≢ Err not_bound.NoMemory
        → MatchOption free ((ret ≡ Err not_bound.NoChannel) × (q ≡ p))
        (λ channel. MatchResult ret (λ _. IsChannelRequested p transport peer channel at q) (λ error. (error ≡ not_bound.NoMemory) × (q ≡ after_number p))) → IsGrown q
    channel_by transport peer ret q None ample is = unchanged_queue q is.1
    channel_by transport peer (Ok done) q (Some channel) ample is = channel_made transport peer channel q is
    channel_by transport peer (Err error) q (Some channel) ample is = absurd (ample (ap Err is.0))

    bind_by : (transport : TransportType) (peer : SocketAddr) (ret : Result (Unit {0}) BindChannelError) (q : Protocol) (refusal : Option BindChannelError) → ret ≢ Err not_bound.NoMemory
        → IfSome refusal (λ error. (ret ≡ Err error) × (q ≡ bind_refused_in (allocation_to transport peer p) transport peer at p))
        → IfNone refusal (IsBindTried p transport peer at ret q) → IsGrown q
    bind_by transport peer ret q (Some error) ample refused tried = bind_refused_queue transport peer (allocation_to transport peer p) q refused.1
    bind_by transport peer ret q None ample refused tried = channel_by transport peer ret q tried.free ample tried.outcome

    pub bind_queue : (transport : TransportType) (peer : SocketAddr) (ret : Result (Unit {0}) BindChannelError) (q : Protocol) → ret ≢ Err not_bound.NoMemory → IsBindAnswered p transport peer at ret q → IsGrown q
    bind_queue transport peer ret q ample is = bind_by transport peer ret q (bind_refusal p transport peer at) ample is.refused is.tried

-- The request stands where it stood.
pub grown_behind : (request : List ℕ) (ahead : ℕ) (p q : Protocol) → IsQueuedAfter request ahead p → IsGrown p q → IsQueuedAfter request ahead q
grown_behind request ahead p q b g = record {
  before = b.before;
  own = b.own;
  after = b.after ++ g.extra;
  queue_is = g.queue_is ∙ ap (λ (l : List Queued). l ++ g.extra) b.queue_is ∙ append_assoc b.before (b.own ∷ b.after) g.extra;
  bytes_are = b.bytes_are;
  requests = b.requests;
  many = b.many;
}

pub grown_last : (sent : ℕ) (p q : Protocol) → HasLastSent sent p → IsGrown p q → HasLastSent sent q
grown_last sent p q h g = λ last is. h last (sym g.last_is ∙ is)

-- ---- a draw

-- What is transmitted, if something is.
pub sent_shown : (answer : Option Sent) (Is : Sent → Type 0) → Sends answer Is → (x : Sent) × (answer ≡ Some x) × Is x
sent_shown None Is is = absurd is
sent_shown (Some x) Is is = (x, refl, is)

-- The list without its first response to the server, which is not this request.
pub record IsWithout (own : Queued) (before after : List Queued) : Type 0 where
  pub left : List Queued
  pub rest : List Queued
  pub is : without_first is_answer (before ++ own ∷ after) ≡ left ++ own ∷ rest
  pub fewer : length left ≤ length before

one_longer : (x : Queued) (xs : List Queued) (n k m : ℕ) → n ≡ suc m → k ≡ suc (m + 1) → take n (x ∷ xs) ++ drop k (x ∷ xs) ≡ x ∷ (take m xs ++ drop (m + 1) xs)
one_longer x xs n k m one two = ap (λ (z : ℕ). take z (x ∷ xs) ++ drop k (x ∷ xs)) one ∙ ap (λ (z : ℕ). x ∷ (take m xs ++ drop z (x ∷ xs))) two

keeps_first : (x : Queued) (xs : List Queued) → is_answer x ≡ false → without_first is_answer (x ∷ xs) ≡ x ∷ without_first is_answer xs
keeps_first x xs not_so = rw not_so (one_longer x xs (1 + position_or_len is_answer xs) (1 + position_or_len is_answer xs + 1) (position_or_len is_answer xs) (omega arith) (omega arith))

drops_first : (x : Queued) (xs : List Queued) → is_answer x ≡ true → without_first is_answer (x ∷ xs) ≡ xs
drops_first x xs so = rw so refl

pub without_it : (own : Queued) (before after : List Queued) → is_answer own ≡ false → IsWithout own before after
without_it own [] after asks = record { left = []; rest = without_first is_answer after; is = keeps_first own after asks; fewer = omega arith }
without_it own (x ∷ before) after asks = elim (cases_Bool (is_answer x)) [
  | inl answers ↦ record { left = before; rest = after; is = drops_first x (before ++ own ∷ after) answers; fewer = omega arith }
  | inr keeps ↦ (
      let more = without_it own before after asks in
      let fewer = more.fewer in
      record { left = x ∷ more.left; rest = more.rest; is = keeps_first x (before ++ own ∷ after) keeps ∙ ap (λ (l : List Queued). x ∷ l) more.is; fewer = omega (arith, fewer) })
]

-- It is behind no more messages than it was, or the result is the request.
pub data IsBehind (request : List ℕ) (ahead : ℕ) (sent : Option Sent) (q : Protocol) : Type 0 where
  Given : (s : Sent) → sent ≡ Some s → s.bytes ≡ request → IsBehind request ahead sent q
  Left : (fewer : ℕ) → fewer ≤ ahead → IsQueuedAfter request fewer q → IsBehind request ahead sent q

-- The same of a draw at least 50 ms after the last message.
pub data IsInTime (request : List ℕ) (ahead : ℕ) (p : Protocol) (sent : Option Sent) (q : Protocol) : Type 0 where
  Repeats : (s : Sent) → sent ≡ Some s → IsOutstanding s.bytes p → IsQueuedAfter request ahead q → IsInTime request ahead p sent q
  Owns : ahead ≡ 0 → (s : Sent) → sent ≡ Some s → s.bytes ≡ request → IsInTime request ahead p sent q
  Next : (fewer : ℕ) → ahead ≡ fewer + 1 → (s : Sent) → sent ≡ Some s → IsQueuedAfter request fewer q → IsInTime request ahead p sent q

module _ (request : List ℕ) (ahead : ℕ) (p : Protocol) (b : IsQueuedAfter request ahead p) (at : ℕ) where
  -- The queue stays.
  stays_behind : (q : Protocol) → q.queue ≡ p.queue → IsQueuedAfter request ahead q
  stays_behind q same = record { before = b.before; own = b.own; after = b.after; queue_is = same ∙ b.queue_is; bytes_are = b.bytes_are; requests = b.requests; many = b.many }

  own_asks : is_answer b.own ≡ false
  own_asks = ap not b.requests

  answer_behind : (found : Option Queued) (sent : Option Sent) (q : Protocol) → IsAnswerSent found p sent q → IsBehind request ahead sent q
  answer_behind None sent q is = Left ahead (omega arith) (stays_behind q (ap (λ (x : Protocol). x.queue) is.1))
  answer_behind (Some x) sent q is =
      let w = without_it b.own b.before b.after own_asks in
      let fewer = w.fewer in
      let many = b.many in
      Left (length w.left) (omega (arith, fewer, many)) (record {
        before = w.left;
        own = b.own;
        after = w.rest;
        queue_is = ap (λ (y : Protocol). y.queue) is.1 ∙ ap (λ (l : List Queued). without_first is_answer l) b.queue_is ∙ w.is;
        bytes_are = b.bytes_are;
        requests = b.requests;
        many = refl;
      })

  -- A message is queued.
  next_by : (before : List Queued) → p.queue ≡ before ++ b.own ∷ b.after → length before ≡ ahead → (sent : Option Sent) (q : Protocol) → IsNextSent (before ++ b.own ∷ b.after) p at sent q → IsInTime request ahead p sent q
  next_by [] queue many sent q is =
      let s = sent_shown sent (λ x. IsQueuedSent p at b.own b.after x q) is in
      Owns (sym many) s.0 s.1 (ap (λ (x : Sent). x.bytes) s.2.is_sent ∙ b.bytes_are)
  next_by (y ∷ before) queue many sent q is =
      let s = sent_shown sent (λ x. IsQueuedSent p at y (before ++ b.own ∷ b.after) x q) is in
      Next (length before) (omega (arith, many)) s.0 s.1 (record {
        before = before;
        own = b.own;
        after = b.after;
        queue_is = ap (λ (x : Protocol). x.queue) s.2.after;
        bytes_are = b.bytes_are;
        requests = b.requests;
        many = refl;
      })

  next_in_time : (sent : Option Sent) (q : Protocol) → IsNextSent p.queue p at sent q → IsInTime request ahead p sent q
  next_in_time sent q is = next_by b.before b.queue_is b.many sent q (subst (λ (l : List Queued). IsNextSent l p at sent q) b.queue_is is)

  again_queue : (s : Sent) (q : Protocol) → IsRepeated p at s q → q.queue ≡ p.queue
  again_queue s q is = ap (λ (x : Protocol). x.queue) is.after

  again_outstanding : (s : Sent) (q : Protocol) → IsRepeated p at s q → IsOutstanding s.bytes p
  again_outstanding s q is = record { number = is.number; transaction = is.transaction; there = is.least.present; bytes_are = sym (ap (λ (x : Sent). x.bytes) is.is_sent) }

  pub drawn_in_time : (sent : Option Sent) (q : Protocol) → is_resting (pace_of p) p.last_send at ≡ false → IsTransmitted p at sent q → IsInTime request ahead p sent q
  drawn_in_time sent q free (Again s is r) = Repeats s is (again_outstanding s q r) (stays_behind q (again_queue s q r))
  drawn_in_time sent q free (Fresh none is) = tested (is_resting (pace_of p) p.last_send at) (λ rests _. not_both (is_resting (pace_of p) p.last_send at) rests free) (λ _ x. next_in_time sent q x) is

  of_in_time : (sent : Option Sent) (q : Protocol) → IsInTime request ahead p sent q → IsBehind request ahead sent q
  of_in_time sent q (Repeats s is out behind) = Left ahead (omega arith) behind
  of_in_time sent q (Owns first s is own) = Given s is own
  of_in_time sent q (Next fewer one s is behind) = Left fewer (omega (arith, one)) behind

  pub drawn_behind : (sent : Option Sent) (q : Protocol) → IsTransmitted p at sent q → IsBehind request ahead sent q
  drawn_behind sent q (Again s is r) = Left ahead (omega arith) (stays_behind q (again_queue s q r))
  drawn_behind sent q (Fresh none is) = tested (is_resting (pace_of p) p.last_send at) (λ _ x. answer_behind (find is_answer p.queue) sent q x) (λ _ x. of_in_time sent q (next_in_time sent q x)) is

-- ---- the time of the last message

-- The client's last message is the one before, or the result.
abbrev pub IsLast : Protocol → (at : ℕ) → Option Sent → Protocol → Type 0
IsLast p at sent q = (q.last_send ≡ p.last_send) ⊎ ((s : Sent) × (sent ≡ Some s) × (q.last_send ≡ Some at))

module _ (p : Protocol) (at : ℕ) (sent : Option Sent) (q : Protocol) where
  still_last : q ≡ p → IsLast p at sent q
  still_last same = inl (ap (λ (x : Protocol). x.last_send) same)

  renewed_last : (what : Option Want) → IsRenewed what p at sent q → IsLast p at sent q
  renewed_last None is = still_last is.1
  renewed_last (Some want.Refresh) is = (let s = sent_shown sent (λ x. IsRefreshSent p at x q) is in inr (s.0, s.1, ap (λ (x : Protocol). x.last_send) s.2.after))
  renewed_last (Some (want.Channel channel peer)) is = (let s = sent_shown sent (λ x. IsChannelRenewalSent p channel peer at x q) is in inr (s.0, s.1, ap (λ (x : Protocol). x.last_send) s.2.after))
  renewed_last (Some (want.Permission ip)) is = (let s = sent_shown sent (λ x. IsRenewalSent p ip at x q) is in inr (s.0, s.1, ap (λ (x : Protocol). x.last_send) s.2.after))

  answer_last : (found : Option Queued) → IsAnswerSent found p sent q → IsLast p at sent q
  answer_last None is = still_last is.1
  answer_last (Some x) is = inl (ap (λ (y : Protocol). y.last_send) is.1)

  next_last : p.phase ≡ Authenticated → (queue : List Queued) → IsNextSent queue p at sent q → IsLast p at sent q
  next_last on (x ∷ rest) is = (let s = sent_shown sent (λ y. IsQueuedSent p at x rest y q) is in inr (s.0, s.1, ap (λ (y : Protocol). y.last_send) s.2.after))
  next_last on [] is = renewed_last (to_renew at p.allocations) (subst (λ (f : Phase). IsStarted f p at sent q) on is)

  pub drawn_last : p.phase ≡ Authenticated → IsTransmitted p at sent q → IsLast p at sent q
  drawn_last on (Again s is r) = inr (s, is, ap (λ (x : Protocol). x.last_send) r.after)
  drawn_last on (Fresh none is) = tested (is_resting (pace_of p) p.last_send at) (λ _ x. answer_last (find is_answer p.queue) x) (λ _ x. next_last on p.queue x) is

-- The time of the last message after a draw.
abbrev pub sent_or : (at : ℕ) → Option Sent → (before : ℕ) → ℕ
sent_or at (Some s) before = at
sent_or at None before = before

pub last_on : (before at : ℕ) (p q : Protocol) (sent : Option Sent) → before ≤ at → HasLastSent before p → IsLast p at sent q → HasLastSent (sent_or at sent before) q
last_on before at p q None early h (inl same) = λ last is. h last (sym same ∙ is)
last_on before at p q None early h (inr new) = λ last is. absurd (Prim.cc new.1)
last_on before at p q (Some s) early h (inl same) = λ last is. (let one = h last (sym same ∙ is) in omega (arith, one, early))
last_on before at p q (Some s) early h (inr new) = λ last is. (let same : at ≡ last = Prim.cc (sym new.2 ∙ is) in omega (arith, same))

-- The client doesn't rest 50 ms after that time.
pub not_resting : (sent at : ℕ) (p : Protocol) → pace_of p ≡ cadence → HasLastSent sent p → time_after sent cadence ≤ at → is_resting (pace_of p) p.last_send at ≡ false
not_resting sent at p pace h late = ap (λ (n : ℕ). is_resting n p.last_send at) pace ∙ by p.last_send refl
  where
    by : (last : Option ℕ) → p.last_send ≡ last → is_resting cadence last at ≡ false
    by None is = refl
    by (Some last) is = (let one = h last is in le-ltb at (time_after last cadence) (omega (arith, one, late)))

-- ---- once it is requested

permission_text : (transport : TransportType) (p : Protocol) (ip : IpAddr) (number at : ℕ) → (after_permission transport ip [] number at p).queue ≡ p.queue ++ queued_request p.agent.here (request_text p.auth (CreatePermission (ip ∷ [])) number) ∷ []
unfolding after_permission requested
permission_text transport p ip number at = refl

channel_text : (transport : TransportType) (p : Protocol) (peer : SocketAddr) (channel number at : ℕ) → (after_binding transport peer channel number at p).queue ≡ p.queue ++ queued_request p.agent.here (request_text p.auth (ChannelBind channel peer) number) ∷ []
unfolding after_binding requested
channel_text transport p peer channel number at = refl

module _ (b : Beginning) (realm : List ℕ) (address : SocketAddr) (p : Protocol) (speaks : Speaks b realm address p) (transport : TransportType) (at : ℕ) (q : Protocol) (request : List ℕ) (one : IsMade p q request) where
  queued_last : (text : List ℕ) → q.queue ≡ p.queue ++ queued_request p.agent.here text ∷ [] → request ≡ text → IsQueuedAfter request (length p.queue) q
  queued_last text is same = record { before = p.queue; own = queued_request p.agent.here text; after = []; queue_is = is; bytes_are = sym same; requests = refl; many = refl }

  pub permission_stands : (ip : IpAddr) → IsPermissionAnswered p transport ip at (Ok tt) q → IsQueuedAfter request (length p.queue) q
  permission_stands ip is =
      let m = made b realm address p speaks transport ip at q is in
      queued_last _ (ap (λ (x : Protocol). x.queue) m.1.after ∙ permission_text transport p ip m.1.number at) (permission_own b realm address p speaks transport ip at q m.0 m.1 request one)

  pub channel_stands : (peer : SocketAddr) → IsBindAnswered p transport peer at (Ok tt) q → IsQueuedAfter request (length p.queue) q
  channel_stands peer is =
      let m = bound b realm address p speaks transport peer at q is in
      queued_last _ (ap (λ (x : Protocol). x.queue) m.is.after ∙ channel_text transport p peer m.channel m.is.number at) (channel_own b realm address p speaks transport peer at q m request one)
