-- What calls do to connections that are requested or wait for their socket, if all else of an allocation
-- stays as it is.
use Rattle.std.proofs.Common.{◌≡◌, ◌⊎◌, ℕ, Bool, List, Some, None, map, refl, sym, ◌∙◌, subst, inl, inr}
use Rattle.std.specs.List.{find}
use Rattle.std.specs.declared.net.socket_addr.SocketAddr.{SocketAddr}
use Rattle.turn_client_proto_timers.specs.Peers.Channel.Numbers.{AreDistinct}
use Rattle.turn_client_proto_timers.specs.TurnRuns.Members.{IsIn}
use Rattle.turn_client_proto_timers.specs.TurnRuns.Messages as run
use Rattle.turn_client_proto_timers.specs.Allocation.Changes.{change_first}
use Rattle.turn_client_proto_step_laws.specs.ClientWords.{Has, HasItself, HasPermission, HasChannel, HasConnection, IsAttempted, IsWaiting, IsAnswered, IsStored, IsPending, OfPermission, OfChannel, OfNewPermission, OfNewChannel, OfRefresh, OfConnect, OfAttempt, OfBinding, IsTaken, Outstanding, Allocating, Pending, Knows, ByWaiting, ByConnection, Waits}
use Rattle.turn_client_proto_step_laws.specs.Held.{Allocation, Connecting, Waiting}
use Rattle.turn_client_proto_step_laws.specs.RunClient.{Parts}
use Rattle.turn_client_proto_step_laws.specs.Sound.{AreRequested, AreBinding, AreShort, AreWhole, AsksOf, IsOrderly, IsWhole}
use Rattle.turn_client_proto_step_laws.proofs.Adding.{Adds, HasNumber}
use Rattle.turn_client_proto_step_laws.proofs.Lists.{IsImage, found_in, in_first, in_map}

-- ---- one allocation

-- Which connections are requested now, and which become known now.
abbrev pub AskingFor : Type 1
AskingFor = Connecting → Type 0

abbrev pub Learning : Type 1
Learning = Waiting → Type 0

-- No connection is.
abbrev pub none_connects : AskingFor
none_connects c = ⊥

abbrev pub none_learnt : Learning
none_learnt w = ⊥

-- A connection that waited before, whether its socket was requested or not.
pub record Waited (old : List Waiting) (w : Waiting) : Type 0 where
  pub before : Waiting
  pub listed : IsIn before old
  pub connection : w.connection ≡ before.connection
  pub peer : w.peer ≡ before.peer
  pub attempt : w.attempt ≡ before.attempt

pub waited_itself : (old : List Waiting) (w : Waiting) → IsIn w old → Waited old w
waited_itself old w listed = record { before = w; listed = listed; connection = refl; peer = refl; attempt = refl }

-- What becomes known now was not announced by the server.
abbrev pub IsUnattempted : Learning → Type 0
IsUnattempted New = (w : Waiting) → New w → w.attempt ≡ None

pub none_attempts : IsUnattempted none_learnt
none_attempts w h = absurd h

-- An allocation is as before except for these two lists: what is new in them is requested or becomes known
-- now.
pub record IsJoining (Now : AskingFor) (New : Learning) (before after : Allocation) : Type 0 where
  pub others : after ≡ record before { connecting = after.connecting; waiting = after.waiting }
  pub connecting : (c : Connecting) → IsIn c after.connecting → IsIn c before.connecting ⊎ Now c
  pub waiting : (w : Waiting) → IsIn w after.waiting → Waited before.waiting w ⊎ New w

-- What an allocation was before.
pub record WasJoining (Now : AskingFor) (New : Learning) (old : List Allocation) (after : Allocation) : Type 0 where
  pub before : Allocation
  pub listed : IsIn before old
  pub is : IsJoining Now New before after

abbrev pub AreJoining : AskingFor → Learning → List Allocation → List Allocation → Type 0
AreJoining Now New old new = (a : Allocation) → IsIn a new → WasJoining Now New old a

module _ (Now : AskingFor) (New : Learning) where
  pub itself : (a : Allocation) → IsJoining Now New a a
  itself a = record { others = refl; connecting = λ c h. inl h; waiting = λ w h. inl (waited_itself a.waiting w h) }

  -- The first allocation that passes is changed in this way.
  pub first_joining : (passes : Allocation → Bool) (f : Allocation → Allocation) (old : List Allocation)
      → ((a : Allocation) → find passes old ≡ Some a → IsJoining Now New a (f a)) → AreJoining Now New old (change_first passes f old)
  first_joining passes f old is a listed = elim (in_first passes f a old listed) [
    | inl was ↦ record { before = a; listed = was; is = itself a }
    | inr changed ↦ record {
      before = changed.0;
      listed = found_in passes old changed.0 changed.1;
      is = subst (λ (x : Allocation). IsJoining Now New changed.0 x) (sym changed.2) (is changed.0 changed.1);
    }
  ]

  module _ (f : Allocation → Allocation) (is : (a : Allocation) → IsJoining Now New a (f a)) where
    was_image : (old : List Allocation) (a : Allocation) → IsImage f a old → WasJoining Now New old a
    was_image old a image = record {
      before = image.source;
      listed = image.listed;
      is = subst (λ (x : Allocation). IsJoining Now New image.source x) (sym image.is) (is image.source);
    }

    pub each_joining : (old : List Allocation) → AreJoining Now New old (map f old)
    each_joining old a listed = was_image old a (in_map f a old listed)

  -- ---- what it has, knows and awaits

  module _ (before after : Allocation) (is : IsJoining Now New before after) where
    -- The allocation with these two lists, and all else as before.
    abbrev mixed : Allocation
    mixed = record before { connecting = after.connecting; waiting = after.waiting }

    has_mixed : (h : run.Held) → Has mixed h → Has before h
    has_mixed h HasItself = HasItself
    has_mixed h (HasPermission p listed) = HasPermission p listed
    has_mixed h (HasChannel c listed) = HasChannel c listed
    has_mixed h (HasConnection c listed bound) = HasConnection c listed bound

    has_before : (h : run.Held) → Has after h → Has before h
    has_before h has = has_mixed h (subst (λ (a : Allocation). Has a h) is.others has)

    knows_mixed : (n : ℕ) (peer : SocketAddr) → Knows mixed n peer → Knows before n peer ⊎ ((w : Waiting) × New w × (w.connection ≡ n) × (w.peer ≡ peer))
    knows_mixed n peer (ByConnection c listed) = inl (ByConnection c listed)
    knows_mixed n peer (ByWaiting w listed) = elim (is.waiting w listed) [
      | inl was ↦
          inl (subst (λ (k : ℕ). Knows before k w.peer) (sym was.connection)
          (subst (λ (x : SocketAddr). Knows before was.before.connection x) (sym was.peer) (ByWaiting was.before was.listed)))
      | inr new ↦ inr (w, new, refl, refl)
    ]

    knows_before : (n : ℕ) (peer : SocketAddr) → Knows after n peer → Knows before n peer ⊎ ((w : Waiting) × New w × (w.connection ≡ n) × (w.peer ≡ peer))
    knows_before n peer knows = knows_mixed n peer (subst (λ (a : Allocation). Knows a n peer) is.others knows)

    pending_mixed : IsUnattempted New → (n : ℕ) → IsPending n mixed → IsPending n before ⊎ ((c : Connecting) × Now c × (c.number ≡ n))
    pending_mixed free n (OfPermission p listed has) = inl (OfPermission p listed has)
    pending_mixed free n (OfChannel c listed has) = inl (OfChannel c listed has)
    pending_mixed free n (OfNewPermission p listed has) = inl (OfNewPermission p listed has)
    pending_mixed free n (OfNewChannel c listed has) = inl (OfNewChannel c listed has)
    pending_mixed free n (OfRefresh r listed has) = inl (OfRefresh r listed has)
    pending_mixed free n (OfConnect c listed has) = elim (is.connecting c listed) [ inl was ↦ inl (OfConnect c was has) | inr now ↦ inr (c, now, has) ]
    pending_mixed free n (OfAttempt w listed has) = elim (is.waiting w listed) [
      | inl was ↦ inl (OfAttempt was.before was.listed (sym was.attempt ∙ has))
      | inr new ↦ absurd (Prim.cc (sym (free w new) ∙ has))
    ]
    pending_mixed free n (OfBinding c listed b awaited has) = inl (OfBinding c listed b awaited has)

    pending_before : IsUnattempted New → (n : ℕ) → IsPending n after → IsPending n before ⊎ ((c : Connecting) × Now c × (c.number ≡ n))
    pending_before free n pending = pending_mixed free n (subst (λ (a : Allocation). IsPending n a) is.others pending)

    attempted_before : IsUnattempted New → (n : ℕ) (w : Waiting) → IsIn w after.waiting → w.attempt ≡ Some n → Waited before.waiting w
    attempted_before free n w listed has = elim (is.waiting w listed) [ inl was ↦ was | inr new ↦ absurd (Prim.cc (sym (free w new) ∙ has)) ]

  -- ---- all of them

  module _ (p : Parts) (new : List Allocation) (are : AreJoining Now New p.allocations new) where
    pub stored_joining : (h : run.Held) → IsStored new h → IsStored p.allocations h
    stored_joining h k =
        let was = are k.allocation k.listed in
        record { allocation = was.before; listed = was.listed; has = has_before was.before k.allocation was.is h k.has }

    pub waits_joining : (n : ℕ) (peer : SocketAddr) → Waits new n peer → Waits p.allocations n peer ⊎ ((w : Waiting) × New w × (w.connection ≡ n) × (w.peer ≡ peer))
    waits_joining n peer h =
        let was = are h.allocation h.listed in
        elim (knows_before was.before h.allocation was.is n peer h.knows) [
          | inl knew ↦ inl (record { allocation = was.before; listed = was.listed; knows = knew })
          | inr learnt ↦ inr learnt
        ]

    pub taken_joining : IsUnattempted New → (n : ℕ) → IsTaken (record p { allocations = new }) n → IsTaken p n ⊎ ((c : Connecting) × Now c × (c.number ≡ n))
    taken_joining free n (Outstanding t there) = inl (Outstanding t there)
    taken_joining free n (Allocating listed) = inl (Allocating listed)
    taken_joining free n (Pending a listed pending) =
        let was = are a listed in
        elim (pending_before was.before a was.is free n pending) [
          | inl old ↦ inl (Pending was.before was.listed old)
          | inr now ↦ inr now
        ]

    pub attempted_joining : IsUnattempted New → (n : ℕ) → IsAttempted new p.queue n → IsAttempted p.allocations p.queue n
    attempted_joining free n (IsAnswered q listed response number) = IsAnswered q listed response number
    attempted_joining free n (IsWaiting a listed w has number) =
        let was = are a listed in
        let waited = attempted_before was.before a was.is free n w has number in
        IsWaiting was.before was.listed waited.before waited.listed (sym waited.attempt ∙ number)

    -- XOR-PEER-ADDRESS carries completely the peers of what is requested now, and the outstanding requests
    -- ask for it.
    pub joining_orderly : ((c : Connecting) → Now c → AsksOf p.agent (run.Knows 0 c.peer) c.number) → ((c : Connecting) → Now c → IsWhole c.peer) → AreDistinct new → IsOrderly p
        → IsOrderly (record p { allocations = new })
    joining_orderly asks whole distinct is = record {
      numbers = is.numbers;
      messages = is.messages;
      allocates = is.allocates;
      queued = is.queued;
      lifetimes = λ a listed. let was = are a listed in
          subst (λ (x : Allocation). AreShort x.pending_refreshes) (sym was.is.others) (is.lifetimes was.before was.listed);
      permissions = λ a listed. let was = are a listed in
          subst (λ (x : Allocation). AreRequested p.agent x) (sym was.is.others) (is.permissions was.before was.listed);
      channels = λ a listed. let was = are a listed in let requested = is.channels was.before was.listed in
          subst (λ (x : Allocation). AreBinding p.agent x) (sym was.is.others) (record { requested = requested.requested; renewed = requested.renewed });
      peers = λ a listed. let was = are a listed in let all = is.peers was.before was.listed in
          subst (λ (x : Allocation). AreWhole x) (sym was.is.others) (record { requested = all.requested; standing = all.standing });
      connects = λ a listed. let was = are a listed in let requested = is.connects was.before was.listed in record {
        requested = λ c there. elim (was.is.connecting c there) [ inl before ↦ requested.requested c before | inr now ↦ asks c now ];
        whole = λ c there. elim (was.is.connecting c there) [ inl before ↦ requested.whole c before | inr now ↦ whole c now ];
        binds = λ c there b awaits. requested.binds c (subst (λ (x : Allocation). IsIn c x.connections) was.is.others there) b awaits;
      };
      distinct = distinct;
    }

-- The allocations change in this way, and nothing new becomes known; the requests are among those that are
-- made.
pub allocations_joining : (started : List run.Message) (Now : AskingFor) (p : Parts) (new : List Allocation) → AreJoining Now none_learnt p.allocations new
    → ((c : Connecting) → Now c → HasNumber c.number started) → Adds started p (record p { allocations = new })
allocations_joining started Now p new are made = record {
  outstanding = λ m h. inl h;
  queued = λ m h. inl h;
  taken = λ n h. elim (taken_joining Now none_learnt p new are none_attempts n h) [
    | inl was ↦ inl was
    | inr now ↦ let one = made now.0 now.1 in inr (record { one = one.one; listed = one.listed; is = one.is ∙ now.2 })
  ];
  stored = stored_joining Now none_learnt p new are;
  waits = λ n peer h. elim (waits_joining Now none_learnt p new are n peer h) [ inl was ↦ was | inr learnt ↦ absurd learnt.1 ];
  attempted = attempted_joining Now none_learnt p new are none_attempts;
}
