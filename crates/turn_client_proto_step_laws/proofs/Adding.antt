-- What becomes of the parts of a client that a run looks at, if nothing is gained.
use Rattle.std.proofs.Common.{◌≡◌, ℕ, true, false, List, [], ◌∷◌, ◌++◌, refl, sym, ap, ◌∙◌, subst, ◌⊎◌, inl, inr}
use Rattle.std.specs.declared.net.socket_addr.SocketAddr.{SocketAddr}
use Rattle.turn_client_proto_timers.specs.StunTypesWire.Grammar.{number_at, refusal}
use Rattle.turn_client_proto_timers.specs.StunProtoAgent.Numbers.{NothingNew}
use Rattle.turn_client_proto_timers.specs.StunProtoAgent.Sending.{with_request}
use Rattle.turn_client_proto_timers.specs.StunProtoAgent.State.{Agent}
use Rattle.turn_client_proto_timers.proofs.StunProtoAgent.Numbers.{sent}
use Rattle.turn_client_proto_timers.specs.TurnRuns.Members.{IsIn}
use Rattle.turn_client_proto_timers.specs.TurnRuns.Messages as run
use Rattle.turn_client_proto_timers.specs.TurnRuns.StunWire.{stun_wire, decoded_by}
use Rattle.turn_client_proto_timers.specs.Core.Authenticating.{numbers_sent}
use Rattle.turn_client_proto_timers.specs.Messages.Waiting.{Queued}
use Rattle.turn_client_proto_timers.specs.Core.declared.protocol.Phase.{Phase}
use Rattle.turn_client_proto_step_laws.specs.ClientWords.{Has, HasItself, HasPermission, HasChannel, HasConnection, IsAttempted, IsWaiting, IsAnswered, IsStored, IsOutstanding, IsQueued, IsPending, OfPermission, OfChannel, OfNewPermission, OfNewChannel, OfRefresh, OfConnect, OfAttempt, OfBinding, IsTaken, Outstanding, Allocating, Pending, Knows, ByWaiting, ByConnection, Waits}
use Rattle.turn_client_proto_step_laws.specs.Held.{Allocation, Channel, Connecting, Connection, PendingChannel, PendingPermission, PendingRefresh, Permission, Waiting}
use Rattle.turn_client_proto_step_laws.specs.RunClient.{Parts}
use Rattle.turn_client_proto_step_laws.proofs.Agents.{message_read, outstanding_before, outstanding_sent}
use Rattle.turn_client_proto_step_laws.proofs.Lists.{in_either}

-- One of these requests has this transaction ID.
pub record HasNumber (number : ℕ) (started : List run.Message) : Type 0 where
  pub one : run.Message
  pub listed : IsIn one started
  pub is : one.number ≡ number

-- All that is there afterwards was there before, except for these requests.
pub record Adds (started : List run.Message) (old new : Parts) : Type 0 where
  pub outstanding : (m : run.Message) → IsOutstanding new.agent m → IsOutstanding old.agent m ⊎ IsIn m started
  pub queued : (m : run.Message) → IsQueued new.queue m → IsQueued old.queue m ⊎ IsIn m started
  pub taken : (n : ℕ) → IsTaken new n → IsTaken old n ⊎ HasNumber n started
  pub stored : (h : run.Held) → IsStored new.allocations h → IsStored old.allocations h
  pub waits : (n : ℕ) (peer : SocketAddr) → Waits new.allocations n peer → Waits old.allocations n peer
  pub attempted : (n : ℕ) → IsAttempted new.allocations new.queue n → IsAttempted old.allocations old.queue n

pub adds_none : (started : List run.Message) (p : Parts) → Adds started p p
adds_none started p = record {
  outstanding = λ m h. inl h;
  queued = λ m h. inl h;
  taken = λ n h. inl h;
  stored = λ h k. k;
  waits = λ n peer h. h;
  attempted = λ n h. h;
}

-- A change that adds no request is also one that may add these.
pub widened : (started : List run.Message) (old new : Parts) → Adds [] old new → Adds started old new
widened started old new is = record {
  outstanding = λ m h. elim (is.outstanding m h) [ inl was ↦ inl was | inr none ↦ absurd none ];
  queued = λ m h. elim (is.queued m h) [ inl was ↦ inl was | inr none ↦ absurd none ];
  taken = λ n h. elim (is.taken n h) [ inl was ↦ inl was | inr none ↦ absurd none.listed ];
  stored = is.stored;
  waits = is.waits;
  attempted = is.attempted;
}

-- One change and then another.
pub adds_both : (started : List run.Message) (old mid new : Parts) → Adds started old mid → Adds started mid new → Adds started old new
adds_both started old mid new first second = record {
  outstanding = λ m h. elim (second.outstanding m h) [ inl was ↦ first.outstanding m was | inr now ↦ inr now ];
  queued = λ m h. elim (second.queued m h) [ inl was ↦ first.queued m was | inr now ↦ inr now ];
  taken = λ n h. elim (second.taken n h) [ inl was ↦ first.taken n was | inr now ↦ inr now ];
  stored = λ h k. first.stored h (second.stored h k);
  waits = λ n peer h. first.waits n peer (second.waits n peer h);
  attempted = λ n h. first.attempted n (second.attempted n h);
}

-- ---- the agent

pub agent_less : (started : List run.Message) (p : Parts) (agent : Agent) → NothingNew p.agent agent → Adds started p (record p { agent = agent })
agent_less started p agent none = record {
  outstanding = λ m h. inl (outstanding_before p.agent agent none m h);
  queued = λ m h. inl h;
  taken = λ n h. inl (taken n h);
  stored = λ h k. k;
  waits = λ n peer h. h;
  attempted = λ n h. h;
}
  where
    taken : (n : ℕ) → IsTaken (record p { agent = agent }) n → IsTaken p n
    taken n (Outstanding t there) = let was = none n t there in Outstanding was.before was.there
    taken n (Allocating listed) = Allocating listed
    taken n (Pending a listed is) = Pending a listed is

-- A request becomes outstanding.
pub agent_more : (p : Parts) (bytes : List ℕ) (to : SocketAddr) (now : ℕ) → Adds (decoded_by bytes ∷ []) p (record p { agent = with_request p.agent bytes to now })
agent_more p bytes to now = record {
  outstanding = λ m h. elim (outstanding_sent p.agent bytes to now m h) [ inl was ↦ inl was | inr own ↦ inr (inl own) ];
  queued = λ m h. inl h;
  taken = taken;
  stored = λ h k. k;
  waits = λ n peer h. h;
  attempted = λ n h. h;
}
  where
    taken : (n : ℕ) → IsTaken (record p { agent = with_request p.agent bytes to now }) n → IsTaken p n ⊎ HasNumber n (decoded_by bytes ∷ [])
    taken n (Outstanding t there) = elim (sent p.agent bytes to now n t there) [
      | inl was ↦ inl (Outstanding t was)
      | inr own ↦ inr (record { one = decoded_by bytes; listed = inl refl; is = sym own.0 })
    ]
    taken n (Allocating listed) = inl (Allocating listed)
    taken n (Pending a listed is) = inl (Pending a listed is)

-- ---- the queue

-- A request is queued.
pub queue_more : (p : Parts) (q : Queued) → q.is_request ≡ true → Adds (decoded_by q.bytes ∷ []) p (record p { queue = p.queue ++ q ∷ [] })
queue_more p q request = record {
  outstanding = λ m h. inl h;
  queued = queued;
  taken = λ n h. inl (taken n h);
  stored = λ h k. k;
  waits = λ n peer h. h;
  attempted = attempted;
}
  where
    queued : (m : run.Message) → IsQueued (p.queue ++ q ∷ []) m → IsQueued p.queue m ⊎ IsIn m (decoded_by q.bytes ∷ [])
    queued m h = elim (in_either h.queued p.queue (q ∷ []) h.listed) [
      | inl was ↦ inl (record { queued = h.queued; listed = was; is_request = h.is_request; shows = h.shows })
      | inr own ↦ elim own [
        | inl is ↦ inr (inl (message_read (refusal q.bytes) (decoded_by q.bytes) m (ap (λ (x : Queued). stun_wire.visible x.bytes) is ∙ h.shows)))
        | inr none ↦ absurd none
      ]
    ]

    taken : (n : ℕ) → IsTaken (record p { queue = p.queue ++ q ∷ [] }) n → IsTaken p n
    taken n (Outstanding t there) = Outstanding t there
    taken n (Allocating listed) = Allocating listed
    taken n (Pending a listed is) = Pending a listed is

    attempted : (n : ℕ) → IsAttempted p.allocations (p.queue ++ q ∷ []) n → IsAttempted p.allocations p.queue n
    attempted n (IsWaiting a listed w has is) = IsWaiting a listed w has is
    attempted n (IsAnswered x listed response is) = elim (in_either x p.queue (q ∷ []) listed) [
      | inl was ↦ IsAnswered x was response is
      | inr own ↦ elim own [
        | inl same ↦ absurd (Prim.cc (sym request ∙ ap (λ (y : Queued). y.is_request) same ∙ response))
        | inr none ↦ absurd none
      ]
    ]

-- A reply that is queued adds no queued request.
pub still_queued : (queue : List Queued) (q : Queued) → q.is_request ≡ false → (m : run.Message) → IsQueued (queue ++ q ∷ []) m → IsQueued queue m
still_queued queue q response m h = elim (in_either h.queued queue (q ∷ []) h.listed) [
  | inl was ↦ record { queued = h.queued; listed = was; is_request = h.is_request; shows = h.shows }
  | inr own ↦ elim own [
    | inl same ↦ absurd (Prim.cc (sym response ∙ ap (λ (y : Queued). y.is_request) same ∙ h.is_request))
    | inr none ↦ absurd none
  ]
]

-- The response to a request of the server's that was not answered before is queued.
pub queue_answers : (p : Parts) (q : Queued) → q.is_request ≡ false → IsAttempted p.allocations p.queue (number_at q.bytes) → Adds [] p (record p { queue = p.queue ++ q ∷ [] })
queue_answers p q response waits = record {
  outstanding = λ m h. inl h;
  queued = λ m h. inl (still_queued p.queue q response m h);
  taken = λ n h. inl (taken n h);
  stored = λ h k. k;
  waits = λ n peer h. h;
  attempted = attempted;
}
  where
    taken : (n : ℕ) → IsTaken (record p { queue = p.queue ++ q ∷ [] }) n → IsTaken p n
    taken n (Outstanding t there) = Outstanding t there
    taken n (Allocating listed) = Allocating listed
    taken n (Pending a listed is) = Pending a listed is

    attempted : (n : ℕ) → IsAttempted p.allocations (p.queue ++ q ∷ []) n → IsAttempted p.allocations p.queue n
    attempted n (IsWaiting a listed w has is) = IsWaiting a listed w has is
    attempted n (IsAnswered x listed answers is) = elim (in_either x p.queue (q ∷ []) listed) [
      | inl was ↦ IsAnswered x was answers is
      | inr own ↦ elim own [
        | inl same ↦ subst (λ (k : ℕ). IsAttempted p.allocations p.queue k) (ap (λ (y : Queued). number_at y.bytes) same ∙ is) waits
        | inr none ↦ absurd none
      ]
    ]

-- A message is removed from the queue.
pub queue_less : (p : Parts) (rest : List Queued) → ((x : Queued) → IsIn x rest → IsIn x p.queue) → Adds [] p (record p { queue = rest })
queue_less p rest there = record {
  outstanding = λ m h. inl h;
  queued = λ m h. inl (record { queued = h.queued; listed = there h.queued h.listed; is_request = h.is_request; shows = h.shows });
  taken = λ n h. inl (taken n h);
  stored = λ h k. k;
  waits = λ n peer h. h;
  attempted = attempted;
}
  where
    taken : (n : ℕ) → IsTaken (record p { queue = rest }) n → IsTaken p n
    taken n (Outstanding t there) = Outstanding t there
    taken n (Allocating listed) = Allocating listed
    taken n (Pending a listed is) = Pending a listed is

    attempted : (n : ℕ) → IsAttempted p.allocations rest n → IsAttempted p.allocations p.queue n
    attempted n (IsWaiting a listed w has is) = IsWaiting a listed w has is
    attempted n (IsAnswered x listed response is) = IsAnswered x (there x listed) response is

-- ---- how far the client is

-- ALLOCATEs were sent with these transaction IDs: either before, or they are among these requests.
pub phase_moved : (started : List run.Message) (p : Parts) (phase : Phase) → ((n : ℕ) → IsIn n (numbers_sent phase) → IsIn n (numbers_sent p.phase) ⊎ HasNumber n started) → Adds started p (record p { phase = phase })
phase_moved started p phase old = record {
  outstanding = λ m h. inl h;
  queued = λ m h. inl h;
  taken = taken;
  stored = λ h k. k;
  waits = λ n peer h. h;
  attempted = λ n h. h;
}
  where
    taken : (n : ℕ) → IsTaken (record p { phase = phase }) n → IsTaken p n ⊎ HasNumber n started
    taken n (Outstanding t there) = inl (Outstanding t there)
    taken n (Allocating listed) = elim (old n listed) [ inl was ↦ inl (Allocating was) | inr now ↦ inr now ]
    taken n (Pending a listed is) = inl (Pending a listed is)

-- ---- the allocations

-- An allocation has nothing that it hadn't before, and awaits nothing new except these REFRESH requests.
pub record IsLess (more : List PendingRefresh) (before after : Allocation) : Type 0 where
  pub transport : after.transport ≡ before.transport
  pub address : after.address ≡ before.address
  pub permissions : (p : Permission) → IsIn p after.permissions → IsIn p before.permissions
  pub channels : (c : Channel) → IsIn c after.channels → IsIn c before.channels
  pub new_permissions : (p : PendingPermission) → IsIn p after.pending_permissions → IsIn p before.pending_permissions
  pub new_channels : (c : PendingChannel) → IsIn c after.pending_channels → IsIn c before.pending_channels
  pub refreshes : (r : PendingRefresh) → IsIn r after.pending_refreshes → IsIn r before.pending_refreshes ⊎ IsIn r more
  pub connecting : (c : Connecting) → IsIn c after.connecting → IsIn c before.connecting
  pub waiting : (w : Waiting) → IsIn w after.waiting → IsIn w before.waiting
  pub connections : (c : Connection) → IsIn c after.connections → IsIn c before.connections

-- What an allocation was before.
pub record WasMore (more : List PendingRefresh) (old : List Allocation) (after : Allocation) : Type 0 where
  pub before : Allocation
  pub listed : IsIn before old
  pub less : IsLess more before after

abbrev pub AreLess : List PendingRefresh → List Allocation → List Allocation → Type 0
AreLess more old new = (a : Allocation) → IsIn a new → WasMore more old a

module _ (more : List PendingRefresh) (before after : Allocation) (less : IsLess more before after) where
  has_before : (h : run.Held) → Has after h → Has before h
  has_before h HasItself =
      subst (λ (t : _). Has before (run.Allocation t after.address)) (sym less.transport)
      (subst (λ (a : _). Has before (run.Allocation before.transport a)) (sym less.address) HasItself)
  has_before h (HasPermission p listed) =
      subst (λ (t : _). Has before (run.Permission t p.ip)) (sym less.transport) (HasPermission p (less.permissions p listed))
  has_before h (HasChannel c listed) = HasChannel c (less.channels c listed)
  has_before h (HasConnection c listed bound) = HasConnection c (less.connections c listed) bound

  knows_before : (n : ℕ) (peer : SocketAddr) → Knows after n peer → Knows before n peer
  knows_before n peer (ByWaiting w listed) = ByWaiting w (less.waiting w listed)
  knows_before n peer (ByConnection c listed) = ByConnection c (less.connections c listed)

  pending_before : (n : ℕ) → IsPending n after → IsPending n before ⊎ ((r : PendingRefresh) × IsIn r more × (r.number ≡ n))
  pending_before n (OfPermission p listed is) = inl (OfPermission p (less.permissions p listed) is)
  pending_before n (OfChannel c listed is) = inl (OfChannel c (less.channels c listed) is)
  pending_before n (OfNewPermission p listed is) = inl (OfNewPermission p (less.new_permissions p listed) is)
  pending_before n (OfNewChannel c listed is) = inl (OfNewChannel c (less.new_channels c listed) is)
  pending_before n (OfRefresh r listed is) = elim (less.refreshes r listed) [ inl was ↦ inl (OfRefresh r was is) | inr now ↦ inr (r, now, is) ]
  pending_before n (OfConnect c listed is) = inl (OfConnect c (less.connecting c listed) is)
  pending_before n (OfAttempt w listed is) = inl (OfAttempt w (less.waiting w listed) is)
  pending_before n (OfBinding c listed b awaited is) = inl (OfBinding c (less.connections c listed) b awaited is)

-- The allocations change in this way; the REFRESH requests that they await are among those that are made.
pub allocations_less : (started : List run.Message) (more : List PendingRefresh) (p : Parts) (new : List Allocation) → AreLess more p.allocations new
    → ((r : PendingRefresh) → IsIn r more → HasNumber r.number started) → Adds started p (record p { allocations = new })
allocations_less started more p new less made = record {
  outstanding = λ m h. inl h;
  queued = λ m h. inl h;
  taken = taken;
  stored = λ h k. let was = less k.allocation k.listed in record { allocation = was.before; listed = was.listed; has = has_before more was.before k.allocation was.less h k.has };
  waits = λ n peer h. let was = less h.allocation h.listed in record { allocation = was.before; listed = was.listed; knows = knows_before more was.before h.allocation was.less n peer h.knows };
  attempted = attempted;
}
  where
    number_made : (n : ℕ) (r : PendingRefresh) → IsIn r more → r.number ≡ n → HasNumber n started
    number_made n r listed is = let h = made r listed in record { one = h.one; listed = h.listed; is = h.is ∙ is }

    taken : (n : ℕ) → IsTaken (record p { allocations = new }) n → IsTaken p n ⊎ HasNumber n started
    taken n (Outstanding t there) = inl (Outstanding t there)
    taken n (Allocating listed) = inl (Allocating listed)
    taken n (Pending a listed is) =
        let was = less a listed in
        elim (pending_before more was.before a was.less n is) [
          | inl old ↦ inl (Pending was.before was.listed old)
          | inr now ↦ inr (number_made n now.0 now.1 now.2)
        ]

    attempted : (n : ℕ) → IsAttempted new p.queue n → IsAttempted p.allocations p.queue n
    attempted n (IsAnswered q listed response is) = IsAnswered q listed response is
    attempted n (IsWaiting a listed w has is) =
        let was = less a listed in
        IsWaiting was.before was.listed w (was.less.waiting w has) is
