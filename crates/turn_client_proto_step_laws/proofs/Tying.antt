-- What becomes of an allocation if a connection that waited for its socket gets one, and is to be bound.
use Rattle.std.proofs.Common.{◌≡◌, ◌⊎◌, ℕ, Bool, List, [], ◌∷◌, Some, sym, ap, ◌∙◌, subst, inl, inr}
use Rattle.std.specs.List.{find}
use Rattle.std.specs.declared.net.socket_addr.SocketAddr.{SocketAddr}
use Rattle.turn_client_proto_timers.specs.StunProtoAgent.State.{Agent}
use Rattle.turn_client_proto_timers.specs.Allocation.Changes.{change_first}
use Rattle.turn_client_proto_timers.specs.Peers.Channel.Numbers.{AreDistinct}
use Rattle.turn_client_proto_timers.specs.Connection.Sockets.{binding, to_bind}
use Rattle.turn_client_proto_timers.specs.TurnRuns.Members.{IsIn}
use Rattle.turn_client_proto_timers.specs.TurnRuns.Messages as run
use Rattle.turn_client_proto_step_laws.specs.ClientWords.{Has, HasItself, HasPermission, HasChannel, HasConnection, IsAttempted, IsWaiting, IsAnswered, IsStored, IsPending, OfPermission, OfChannel, OfNewPermission, OfNewChannel, OfRefresh, OfConnect, OfAttempt, OfBinding, IsTaken, Outstanding, Allocating, Pending, Knows, ByWaiting, ByConnection, Waits}
use Rattle.turn_client_proto_step_laws.specs.Held.{Allocation, Binding, Connection}
use Rattle.turn_client_proto_step_laws.specs.RunClient.{Parts}
use Rattle.turn_client_proto_step_laws.specs.Sound.{AreRequested, AreBinding, AreConnecting, AreShort, AreWhole, AsksFor, IsOrderly}
use Rattle.turn_client_proto_step_laws.proofs.Adding.{Adds, HasNumber}
use Rattle.turn_client_proto_step_laws.proofs.Lists.{in_either, in_first, inside, found_in}

module _ (here peer : SocketAddr) (connection : ℕ) (awaited : Binding) where
  abbrev tied : Connection
  tied = to_bind here peer connection awaited

  -- ---- one allocation, which knew the connection

  old_or_tied : (a : Allocation) (c : Connection) → IsIn c (binding tied a).connections → IsIn c a.connections ⊎ (tied ≡ c)
  old_or_tied a c listed = elim (in_either c a.connections (tied ∷ []) listed) [
    | inl was ↦ inl was
    | inr own ↦ elim own [ inl same ↦ inr same | inr none ↦ absurd none ]
  ]

  -- What awaits a transaction ID is a connection of before, or the one that is to be bound now.
  ties : (agent : Agent) (a : Allocation) → AsksFor agent (run.Connection here peer connection) awaited.number → AreConnecting agent a → AreConnecting agent (binding tied a)
  ties agent a asks is = record {
    requested = is.requested;
    whole = is.whole;
    binds = λ c there b awaits. elim (old_or_tied a c there) [
      | inl was ↦ is.binds c was b awaits
      | inr same ↦
          let own : awaited ≡ b = inside (ap (λ (x : Connection). x.awaited) same ∙ awaits) in
          subst (λ (x : Connection). AsksFor agent (run.Connection x.here x.peer x.connection) b.number) same
          (subst (λ (x : Binding). AsksFor agent (run.Connection here peer connection) x.number) own asks)
    ];
  }

  module _ (a : Allocation) (knew : Knows a connection peer) where
    abbrev after : Allocation
    after = binding tied a

    -- The connection is not bound yet.
    has_before : (h : run.Held) → Has after h → Has a h
    has_before h HasItself = HasItself
    has_before h (HasPermission p listed) = HasPermission p listed
    has_before h (HasChannel c listed) = HasChannel c listed
    has_before h (HasConnection c listed bound) = elim (old_or_tied a c listed) [
      | inl was ↦ HasConnection c was bound
      | inr same ↦ absurd (Prim.cc (ap (λ (x : Connection). x.awaited) same ∙ bound))
    ]

    knows_before : (n : ℕ) (to : SocketAddr) → Knows after n to → Knows a n to
    knows_before n to (ByWaiting w listed) = ByWaiting w listed
    knows_before n to (ByConnection c listed) = elim (old_or_tied a c listed) [
      | inl was ↦ ByConnection c was
      | inr same ↦ subst (λ (x : Connection). Knows a x.connection x.peer) same knew
    ]

    pending_before : (n : ℕ) → IsPending n after → IsPending n a ⊎ (awaited.number ≡ n)
    pending_before n (OfPermission p listed has) = inl (OfPermission p listed has)
    pending_before n (OfChannel c listed has) = inl (OfChannel c listed has)
    pending_before n (OfNewPermission p listed has) = inl (OfNewPermission p listed has)
    pending_before n (OfNewChannel c listed has) = inl (OfNewChannel c listed has)
    pending_before n (OfRefresh r listed has) = inl (OfRefresh r listed has)
    pending_before n (OfConnect c listed has) = inl (OfConnect c listed has)
    pending_before n (OfAttempt w listed has) = inl (OfAttempt w listed has)
    pending_before n (OfBinding c listed b awaits has) = elim (old_or_tied a c listed) [
      | inl was ↦ inl (OfBinding c was b awaits has)
      | inr same ↦
          let own : awaited ≡ b = Prim.cc (ap (λ (x : Connection). x.awaited) same ∙ awaits) in
          inr (ap (λ (x : Binding). x.number) own ∙ has)
    ]

  -- ---- all of them

  module _ (passes : Allocation → Bool) (p : Parts) (knew : (a : Allocation) → find passes p.allocations ≡ Some a → Knows a connection peer) where
    abbrev all : List Allocation
    all = change_first passes (binding tied) p.allocations

    -- The allocation is there as it was; or it is the one that knew the connection.
    data WasTied (a : Allocation) : Type 0 where
      Still : IsIn a p.allocations → WasTied a
      Now : (before : Allocation) → find passes p.allocations ≡ Some before → IsIn before p.allocations → a ≡ binding tied before → WasTied a

    was_tied : (a : Allocation) → IsIn a all → WasTied a
    was_tied a listed = elim (in_first passes (binding tied) a p.allocations listed) [
      | inl was ↦ Still was
      | inr changed ↦ Now changed.0 changed.1 (found_in passes p.allocations changed.0 changed.1) changed.2
    ]

    pub allocations_tying : (started : List run.Message) → HasNumber awaited.number started → Adds started p (record p { allocations = all })
    allocations_tying started made = record {
      outstanding = λ m h. inl h;
      queued = λ m h. inl h;
      taken = taken;
      stored = λ h k. by_stored h k.allocation k.has (was_tied k.allocation k.listed);
      waits = λ n to h. by_known n to h.allocation h.knows (was_tied h.allocation h.listed);
      attempted = attempted;
    }
      where
        by_stored : (h : run.Held) (a : Allocation) → Has a h → WasTied a → IsStored p.allocations h
        by_stored h a has (Still listed) = record { allocation = a; listed = listed; has = has }
        by_stored h a has (Now before found listed is) =
            record { allocation = before; listed = listed; has = has_before before (knew before found) h (subst (λ (x : Allocation). Has x h) is has) }

        by_known : (n : ℕ) (to : SocketAddr) (a : Allocation) → Knows a n to → WasTied a → Waits p.allocations n to
        by_known n to a knows (Still listed) = record { allocation = a; listed = listed; knows = knows }
        by_known n to a knows (Now before found listed is) =
            record { allocation = before; listed = listed; knows = knows_before before (knew before found) n to (subst (λ (x : Allocation). Knows x n to) is knows) }

        by_pending : (n : ℕ) (a : Allocation) → IsPending n a → WasTied a → IsTaken p n ⊎ HasNumber n started
        by_pending n a pending (Still listed) = inl (Pending a listed pending)
        by_pending n a pending (Now before found listed is) = elim (pending_before before (knew before found) n (subst (λ (x : Allocation). IsPending n x) is pending)) [
          | inl was ↦ inl (Pending before listed was)
          | inr own ↦ inr (record { one = made.one; listed = made.listed; is = made.is ∙ own })
        ]

        taken : (n : ℕ) → IsTaken (record p { allocations = all }) n → IsTaken p n ⊎ HasNumber n started
        taken n (Outstanding t there) = inl (Outstanding t there)
        taken n (Allocating listed) = inl (Allocating listed)
        taken n (Pending a listed pending) = by_pending n a pending (was_tied a listed)

        attempted : (n : ℕ) → IsAttempted all p.queue n → IsAttempted p.allocations p.queue n
        attempted n (IsAnswered q listed response number) = IsAnswered q listed response number
        attempted n (IsWaiting a listed w has number) = by (was_tied a listed)
          where
            by : WasTied a → IsAttempted p.allocations p.queue n
            by (Still before) = IsWaiting a before w has number
            by (Now before found was is) = IsWaiting before was w (subst (λ (x : Allocation). IsIn w x.waiting) is has) number

    -- What is outstanding with its transaction ID asks that it be bound.
    pub tying_orderly : AsksFor p.agent (run.Connection here peer connection) awaited.number → AreDistinct all → IsOrderly p → IsOrderly (record p { allocations = all })
    tying_orderly asks distinct is = record {
      numbers = is.numbers;
      messages = is.messages;
      allocates = is.allocates;
      queued = is.queued;
      lifetimes = λ a listed. each (λ x. AreShort x.pending_refreshes) (λ x h. h) is.lifetimes a (was_tied a listed);
      permissions = λ a listed. each (AreRequested p.agent) (λ x h. h) is.permissions a (was_tied a listed);
      channels = λ a listed. each (AreBinding p.agent) (λ x h. record { requested = h.requested; renewed = h.renewed }) is.channels a (was_tied a listed);
      peers = λ a listed. each AreWhole (λ x h. record { requested = h.requested; standing = h.standing }) is.peers a (was_tied a listed);
      connects = λ a listed. each (AreConnecting p.agent) (λ x h. ties p.agent x asks h) is.connects a (was_tied a listed);
      distinct = distinct;
    }
      where
        each : (Is : Allocation → Type 0) → ((x : Allocation) → Is x → Is (binding tied x)) → ((x : Allocation) → IsIn x p.allocations → Is x) → (a : Allocation) → WasTied a → Is a
        each Is stays all_so a (Still listed) = all_so a listed
        each Is stays all_so a (Now before found listed same) = subst Is (sym same) (stays before (all_so before listed))
