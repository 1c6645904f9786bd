-- What becomes of allocations if a connection is bound, its binding is requested once more, or its buffered
-- bytes change.
use Rattle.std.proofs.Common.{◌≡◌, ◌⊎◌, ℕ, Bool, List, Option, Some, None, refl, sym, ap, ◌∙◌, subst, inl, inr}
use Rattle.std.specs.List.{find}
use Rattle.std.specs.Prelude.{option_and_then}
use Rattle.std.specs.declared.net.socket_addr.SocketAddr.{SocketAddr}
use Rattle.turn_client_proto_timers.specs.Allocation.Changes.{change_first}
use Rattle.turn_client_proto_timers.specs.Peers.Channel.Numbers.{AreDistinct}
use Rattle.turn_client_proto_timers.specs.TurnRuns.Members.{IsIn}
use Rattle.turn_client_proto_timers.specs.TurnRuns.Messages as run
use Rattle.turn_client_proto_step_laws.specs.ClientWords.{Has, HasItself, HasPermission, HasChannel, HasConnection, IsAttempted, IsWaiting, IsAnswered, IsStored, IsPending, OfPermission, OfChannel, OfNewPermission, OfNewChannel, OfRefresh, OfConnect, OfAttempt, OfBinding, IsTaken, Outstanding, Allocating, Pending, Knows, ByWaiting, ByConnection, Waits}
use Rattle.turn_client_proto_step_laws.specs.Held.{Allocation, Binding, Connection}
use Rattle.turn_client_proto_step_laws.specs.RunClient.{Parts}
use Rattle.turn_client_proto_step_laws.specs.Sound.{AreRequested, AreBinding, AreShort, AreWhole, AsksFor, IsOrderly}
use Rattle.turn_client_proto_step_laws.proofs.Adding.{Adds, HasNumber}
use Rattle.turn_client_proto_step_laws.proofs.Lists.{found_in, in_first}

-- ---- one connection

-- Which connections are bound now, and which bindings are requested now, by which request.
abbrev pub Bounding : Type 1
Bounding = Connection → Type 0

abbrev pub Rebinding : Type 1
Rebinding = Connection → Binding → Type 0

-- No connection is bound.
abbrev pub none_bound : Bounding
none_bound c = ⊥

abbrev pub none_rebound : Rebinding
none_rebound c b = ⊥

-- The item that a connection is once it is bound.
abbrev pub held_as : Connection → run.Held
held_as c = run.Connection c.here c.peer c.connection

-- The connection has the addresses and the ID of before; it was bound or is bound now; and what it awaits it
-- awaited, or awaits now.
pub record IsTurned (New : Bounding) (Now : Rebinding) (before after : Connection) : Type 0 where
  pub here_is : after.here ≡ before.here
  pub peer_is : after.peer ≡ before.peer
  pub number_is : after.connection ≡ before.connection
  pub is_bound : after.awaited ≡ None → (before.awaited ≡ None) ⊎ New after
  pub requested : (b : Binding) → after.awaited ≡ Some b → (before.awaited ≡ Some b) ⊎ Now after b

-- What a connection was before.
pub record WasTurned (New : Bounding) (Now : Rebinding) (old : List Connection) (after : Connection) : Type 0 where
  pub before : Connection
  pub listed : IsIn before old
  pub is : IsTurned New Now before after

-- ---- one allocation

-- An allocation is as before except for its connections.
pub record IsChanging (New : Bounding) (Now : Rebinding) (before after : Allocation) : Type 0 where
  pub others : after ≡ record before { connections = after.connections }
  pub connections : (c : Connection) → IsIn c after.connections → WasTurned New Now before.connections c

-- What an allocation was before.
pub record WasChanging (New : Bounding) (Now : Rebinding) (old : List Allocation) (after : Allocation) : Type 0 where
  pub before : Allocation
  pub listed : IsIn before old
  pub is : IsChanging New Now before after

abbrev pub AreChanging : Bounding → Rebinding → List Allocation → List Allocation → Type 0
AreChanging New Now old new = (a : Allocation) → IsIn a new → WasChanging New Now old a

module _ (New : Bounding) (Now : Rebinding) where
  same : (c : Connection) → IsTurned New Now c c
  same c = record { here_is = refl; peer_is = refl; number_is = refl; is_bound = λ e. inl e; requested = λ b e. inl e }

  itself : (a : Allocation) → IsChanging New Now a a
  itself a = record { others = refl; connections = λ c h. record { before = c; listed = h; is = same c } }

  -- The first connection that passes is changed in this way.
  pub one_changing : (passes : Connection → Bool) (f : Connection → Connection) (a : Allocation)
      → ((c : Connection) → find passes a.connections ≡ Some c → IsTurned New Now c (f c)) → IsChanging New Now a (record a { connections = change_first passes f a.connections })
  one_changing passes f a is = record {
    others = refl;
    connections = λ c listed. elim (in_first passes f c a.connections listed) [
      | inl was ↦ record { before = c; listed = was; is = same c }
      | inr changed ↦ record {
        before = changed.0;
        listed = found_in passes a.connections changed.0 changed.1;
        is = subst (λ (x : Connection). IsTurned New Now changed.0 x) (sym changed.2) (is changed.0 changed.1);
      }
    ];
  }

  -- The first allocation that passes is changed in this way.
  pub first_changing : (passes : Allocation → Bool) (f : Allocation → Allocation) (old : List Allocation)
      → ((a : Allocation) → find passes old ≡ Some a → IsChanging New Now a (f a)) → AreChanging New Now old (change_first passes f old)
  first_changing passes f old is a listed = elim (in_first passes f a old listed) [
    | inl was ↦ record { before = a; listed = was; is = itself a }
    | inr changed ↦ record {
      before = changed.0;
      listed = found_in passes old changed.0 changed.1;
      is = subst (λ (x : Allocation). IsChanging New Now changed.0 x) (sym changed.2) (is changed.0 changed.1);
    }
  ]

  -- ---- what it has, knows and awaits

  held_same : (before after : Connection) → IsTurned New Now before after → held_as after ≡ held_as before
  held_same before after is =
      ap (λ (n : ℕ). run.Connection after.here after.peer n) is.number_is
      ∙ ap (λ (x : SocketAddr). run.Connection after.here x before.connection) is.peer_is
      ∙ ap (λ (x : SocketAddr). run.Connection x before.peer before.connection) is.here_is

  module _ (before after : Allocation) (is : IsChanging New Now before after) where
    -- The allocation with these connections, and all else as before.
    abbrev mixed : Allocation
    mixed = record before { connections = after.connections }

    has_mixed : (h : run.Held) → Has mixed h → Has before h ⊎ ((c : Connection) × New c × (held_as c ≡ h))
    has_mixed h HasItself = inl HasItself
    has_mixed h (HasPermission p listed) = inl (HasPermission p listed)
    has_mixed h (HasChannel c listed) = inl (HasChannel c listed)
    has_mixed h (HasConnection c listed bound) =
        let was = is.connections c listed in
        elim (was.is.is_bound bound) [
          | inl old ↦ inl (subst (λ (x : run.Held). Has before x) (sym (held_same was.before c was.is)) (HasConnection was.before was.listed old))
          | inr new ↦ inr (c, new, refl)
        ]

    has_before : (h : run.Held) → Has after h → Has before h ⊎ ((c : Connection) × New c × (held_as c ≡ h))
    has_before h has = has_mixed h (subst (λ (a : Allocation). Has a h) is.others has)

    knows_mixed : (n : ℕ) (peer : SocketAddr) → Knows mixed n peer → Knows before n peer
    knows_mixed n peer (ByWaiting w listed) = ByWaiting w listed
    knows_mixed n peer (ByConnection c listed) =
        let was = is.connections c listed in
        subst (λ (k : ℕ). Knows before k c.peer) (sym was.is.number_is)
        (subst (λ (x : SocketAddr). Knows before was.before.connection x) (sym was.is.peer_is) (ByConnection was.before was.listed))

    knows_before : (n : ℕ) (peer : SocketAddr) → Knows after n peer → Knows before n peer
    knows_before n peer knows = knows_mixed n peer (subst (λ (a : Allocation). Knows a n peer) is.others knows)

    pending_mixed : (n : ℕ) → IsPending n mixed → IsPending n before ⊎ ((c : Connection) × (b : Binding) × Now c b × (b.number ≡ n))
    pending_mixed n (OfPermission p listed has) = inl (OfPermission p listed has)
    pending_mixed n (OfChannel c listed has) = inl (OfChannel c listed has)
    pending_mixed n (OfNewPermission p listed has) = inl (OfNewPermission p listed has)
    pending_mixed n (OfNewChannel c listed has) = inl (OfNewChannel c listed has)
    pending_mixed n (OfRefresh r listed has) = inl (OfRefresh r listed has)
    pending_mixed n (OfConnect c listed has) = inl (OfConnect c listed has)
    pending_mixed n (OfAttempt w listed has) = inl (OfAttempt w listed has)
    pending_mixed n (OfBinding c listed b awaits has) =
        let was = is.connections c listed in
        elim (was.is.requested b awaits) [ inl old ↦ inl (OfBinding was.before was.listed b old has) | inr now ↦ inr (c, b, now, has) ]

    pending_before : (n : ℕ) → IsPending n after → IsPending n before ⊎ ((c : Connection) × (b : Binding) × Now c b × (b.number ≡ n))
    pending_before n pending = pending_mixed n (subst (λ (a : Allocation). IsPending n a) is.others pending)

  -- ---- all of them

  module _ (p : Parts) (new : List Allocation) (are : AreChanging New Now p.allocations new) where
    pub stored_changing : (h : run.Held) → IsStored new h → IsStored p.allocations h ⊎ ((c : Connection) × New c × (held_as c ≡ h))
    stored_changing h k =
        let was = are k.allocation k.listed in
        elim (has_before was.before k.allocation was.is h k.has) [
          | inl had ↦ inl (record { allocation = was.before; listed = was.listed; has = had })
          | inr gained ↦ inr gained
        ]

    pub waits_changing : (n : ℕ) (peer : SocketAddr) → Waits new n peer → Waits p.allocations n peer
    waits_changing n peer h =
        let was = are h.allocation h.listed in
        record { allocation = was.before; listed = was.listed; knows = knows_before was.before h.allocation was.is n peer h.knows }

    pub taken_changing : (n : ℕ) → IsTaken (record p { allocations = new }) n → IsTaken p n ⊎ ((c : Connection) × (b : Binding) × Now c b × (b.number ≡ n))
    taken_changing n (Outstanding t there) = inl (Outstanding t there)
    taken_changing n (Allocating listed) = inl (Allocating listed)
    taken_changing n (Pending a listed pending) =
        let was = are a listed in
        elim (pending_before was.before a was.is n pending) [
          | inl old ↦ inl (Pending was.before was.listed old)
          | inr now ↦ inr now
        ]

    pub attempted_changing : (n : ℕ) → IsAttempted new p.queue n → IsAttempted p.allocations p.queue n
    attempted_changing n (IsAnswered q listed response number) = IsAnswered q listed response number
    attempted_changing n (IsWaiting a listed w has number) =
        let was = are a listed in
        IsWaiting was.before was.listed w (subst (λ (x : Allocation). IsIn w x.waiting) was.is.others has) number

    -- The request that is outstanding with the transaction ID that a connection awaits now asks that it be
    -- bound.
    pub changing_orderly : ((c : Connection) (b : Binding) → Now c b → AsksFor p.agent (held_as c) b.number) → AreDistinct new → IsOrderly p → IsOrderly (record p { allocations = new })
    changing_orderly asks distinct is = record {
      numbers = is.numbers;
      messages = is.messages;
      allocates = is.allocates;
      queued = is.queued;
      lifetimes = λ a listed. let was = are a listed in
          subst (λ (x : Allocation). AreShort x.pending_refreshes) (sym was.is.others) (is.lifetimes was.before was.listed);
      permissions = λ a listed. let was = are a listed in
          subst (λ (x : Allocation). AreRequested p.agent x) (sym was.is.others) (is.permissions was.before was.listed);
      channels = λ a listed. let was = are a listed in let requested = is.channels was.before was.listed in
          subst (λ (x : Allocation). AreBinding p.agent x) (sym was.is.others) (record { requested = requested.requested; renewed = requested.renewed });
      peers = λ a listed. let was = are a listed in let all = is.peers was.before was.listed in
          subst (λ (x : Allocation). AreWhole x) (sym was.is.others) (record { requested = all.requested; standing = all.standing });
      connects = λ a listed. let was = are a listed in let requested = is.connects was.before was.listed in record {
        requested = λ c there. requested.requested c (subst (λ (x : Allocation). IsIn c x.connecting) was.is.others there);
        whole = λ c there. requested.whole c (subst (λ (x : Allocation). IsIn c x.connecting) was.is.others there);
        binds = λ c there b awaits. let turned = was.is.connections c there in elim (turned.is.requested b awaits) [
          | inl old ↦
              subst (λ (h : run.Held). AsksFor p.agent h b.number) (sym (held_same turned.before c turned.is)) (requested.binds turned.before turned.listed b old)
          | inr now ↦ asks c b now
        ];
      };
      distinct = distinct;
    }

-- The allocations change in this way, and no connection is bound now; the requests that are to bind one are
-- among those that are made.
pub allocations_changing : (started : List run.Message) (Now : Rebinding) (p : Parts) (new : List Allocation) → AreChanging none_bound Now p.allocations new
    → ((c : Connection) (b : Binding) → Now c b → HasNumber b.number started) → Adds started p (record p { allocations = new })
allocations_changing started Now p new are made = record {
  outstanding = λ m h. inl h;
  queued = λ m h. inl h;
  taken = λ n h. elim (taken_changing none_bound Now p new are n h) [
    | inl was ↦ inl was
    | inr now ↦ let one = made now.0 now.1 now.2 in inr (record { one = one.one; listed = one.listed; is = one.is ∙ now.3 })
  ];
  stored = λ h k. elim (stored_changing none_bound Now p new are h k) [ inl was ↦ was | inr gained ↦ absurd gained.1 ];
  waits = waits_changing none_bound Now p new are;
  attempted = attempted_changing none_bound Now p new are;
}

-- ---- the connection that is found

-- The first connection that passes, in the first allocation that does.
pub record IsFirst (passes : Allocation → Bool) (test : Connection → Bool) (all : List Allocation) (c : Connection) : Type 0 where
  pub allocation : Allocation
  pub found : find passes all ≡ Some allocation
  pub at : find test allocation.connections ≡ Some c

pub first_is : (passes : Allocation → Bool) (test : Connection → Bool) (all : List Allocation) (c : Connection)
    → option_and_then (λ (a : Allocation). find test a.connections) (find passes all) ≡ Some c → IsFirst passes test all c
first_is passes test all c is = by (find passes all) refl is
  where
    by : (o : Option Allocation) → find passes all ≡ o → option_and_then (λ (a : Allocation). find test a.connections) o ≡ Some c → IsFirst passes test all c
    by None none h = absurd (Prim.cc h)
    by (Some a) there h = record { allocation = a; found = there; at = h }
