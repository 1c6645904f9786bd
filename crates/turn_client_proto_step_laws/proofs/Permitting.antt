-- What calls do to permissions and channels: what is new was gained, and its requests are known.
use Rattle.std.proofs.Common.{◌≡◌, ◌⊎◌, ℕ, List, [], ◌∷◌, ◌++◌, map, refl, sym, ap, ◌∙◌, subst, inl, inr}
use Rattle.std.specs.declared.net.ip_addr.IpAddr.{IpAddr}
use Rattle.std.specs.declared.net.socket_addr.SocketAddr.{SocketAddr}
use Rattle.turn_client_proto_timers.specs.StunTypesBase.declared.transport.TransportType.{TransportType}
use Rattle.turn_client_proto_timers.specs.TurnRuns.Members.{IsIn}
use Rattle.turn_client_proto_timers.specs.TurnRuns.Messages as run
use Rattle.turn_client_proto_timers.specs.Allocation.Permissions.{addresses_of}
use Rattle.turn_client_proto_step_laws.specs.ClientWords.{Has, HasItself, HasPermission, HasChannel, HasConnection, IsAttempted, IsWaiting, IsAnswered, IsStored, IsPending, OfPermission, OfChannel, OfNewPermission, OfNewChannel, OfRefresh, OfConnect, OfAttempt, OfBinding, IsTaken, Outstanding, Allocating, Pending, Knows, ByWaiting, ByConnection, Waits}
use Rattle.turn_client_proto_step_laws.specs.Held.{Allocation, Channel, Connecting, Connection, PendingChannel, PendingPermission, PendingRefresh, Permission, Waiting}
use Rattle.turn_client_proto_step_laws.specs.RunClient.{Parts}
use Rattle.turn_client_proto_step_laws.proofs.Adding.{Adds, HasNumber}
use Rattle.turn_client_proto_step_laws.proofs.Lists.{IsImage, in_either, in_map}
use Rattle.turn_client_proto_step_laws.proofs.Named.{first_named}

-- ---- what is gained, and what is requested

-- What is gained.
abbrev pub Gaining : Type 1
Gaining = run.Held → Type 0

-- Nothing is gained.
abbrev pub none_gained : Gaining
none_gained held = ⊥

-- Which requests ask for what now.
abbrev pub Asking : Type 1
Asking = run.Held → ℕ → Type 0

-- No request does.
abbrev pub none_asks : Asking
none_asks held number = ⊥

-- This request asks for what it asks for, with its transaction ID.
abbrev pub one_asks : run.Message → Asking
one_asks m held number = run.Asks m (run.Holds held) × (number ≡ m.number)

-- A request that asks for something now has this transaction ID.
abbrev pub IsNow : Asking → ℕ → Type 0
IsNow Now number = (held : run.Held) × Now held number

-- ---- one allocation

-- A permission for the same address was active before.
pub record Stood (old : List Permission) (p : Permission) : Type 0 where
  pub before : Permission
  pub listed : IsIn before old
  pub ip : p.ip ≡ before.ip

-- A request with this transaction ID renewed a permission before.
pub record WasRenewing (old : List Permission) (number : ℕ) : Type 0 where
  pub before : Permission
  pub listed : IsIn before old
  pub has : IsIn number before.renewals

-- A request with this transaction ID asked for a permission for this address before, perhaps among others.
pub record WasAsking (old : List PendingPermission) (address : IpAddr) (number : ℕ) : Type 0 where
  pub before : PendingPermission
  pub listed : IsIn before old
  pub named : IsIn address (addresses_of before)
  pub has : IsIn number before.numbers

-- A channel with the same number and peer was active before.
pub record StoodBound (old : List Channel) (c : Channel) : Type 0 where
  pub before : Channel
  pub listed : IsIn before old
  pub number : c.number ≡ before.number
  pub peer : c.peer ≡ before.peer

-- A request with this transaction ID renewed a channel with this number and peer before.
pub record WasBinding (old : List Channel) (channel : ℕ) (to : SocketAddr) (number : ℕ) : Type 0 where
  pub before : Channel
  pub listed : IsIn before old
  pub number_is : channel ≡ before.number
  pub peer : to ≡ before.peer
  pub has : IsIn number before.renewals

-- A channel with the same number and peer was requested before.
pub record WasWanted (old : List PendingChannel) (c : PendingChannel) : Type 0 where
  pub before : PendingChannel
  pub listed : IsIn before old
  pub channel : c.channel ≡ before.channel
  pub peer : c.peer ≡ before.peer

-- A request with this transaction ID asked for a channel with this number and peer before.
pub record WasWanting (old : List PendingChannel) (channel : ℕ) (to : SocketAddr) (number : ℕ) : Type 0 where
  pub before : PendingChannel
  pub listed : IsIn before old
  pub channel_is : channel ≡ before.channel
  pub peer : to ≡ before.peer
  pub has : IsIn number before.numbers

-- An allocation has no permission and no channel that it hadn't before, except what was gained. The
-- transaction IDs of requests for them are those of before, or those of requests that are made now.
pub record IsPermitting (New : Gaining) (Now : Asking) (before after : Allocation) : Type 0 where
  pub transport : after.transport ≡ before.transport
  pub address : after.address ≡ before.address
  pub permissions : (p : Permission) → IsIn p after.permissions → Stood before.permissions p ⊎ New (run.Permission after.transport p.ip)
  pub renewals : (p : Permission) (n : ℕ) → IsIn p after.permissions → IsIn n p.renewals → WasRenewing before.permissions n ⊎ IsNow Now n
  pub numbers : (p : PendingPermission) (n : ℕ) → IsIn p after.pending_permissions → IsIn n p.numbers → (ip : IpAddr) → IsIn ip (addresses_of p)
      → WasAsking before.pending_permissions ip n ⊎ Now (run.Permission after.transport ip) n
  pub channels : (c : Channel) → IsIn c after.channels → StoodBound before.channels c ⊎ New (run.Channel c.number c.peer)
  pub channel_renewals : (c : Channel) (n : ℕ) → IsIn c after.channels → IsIn n c.renewals
      → WasBinding before.channels c.number c.peer n ⊎ Now (run.Channel c.number c.peer) n
  pub new_channels : (c : PendingChannel) → IsIn c after.pending_channels
      → WasWanted before.pending_channels c ⊎ ((n : ℕ) × Now (run.Channel c.channel c.peer) n)
  pub channel_numbers : (c : PendingChannel) (n : ℕ) → IsIn c after.pending_channels → IsIn n c.numbers
      → WasWanting before.pending_channels c.channel c.peer n ⊎ Now (run.Channel c.channel c.peer) n
  pub refreshes : (r : PendingRefresh) → IsIn r after.pending_refreshes → IsIn r before.pending_refreshes
  pub connecting : (c : Connecting) → IsIn c after.connecting → IsIn c before.connecting
  pub waiting : (w : Waiting) → IsIn w after.waiting → IsIn w before.waiting
  pub connections : (c : Connection) → IsIn c after.connections → IsIn c before.connections

-- What an allocation was before.
pub record WasPermitting (New : Gaining) (Now : Asking) (old : List Allocation) (after : Allocation) : Type 0 where
  pub before : Allocation
  pub listed : IsIn before old
  pub is : IsPermitting New Now before after

abbrev pub ArePermitting : Gaining → Asking → List Allocation → List Allocation → Type 0
ArePermitting New Now old new = (a : Allocation) → IsIn a new → WasPermitting New Now old a

-- ---- its lists

-- A permission for the same address was active before, and its requests are those of before, or are made now.
pub record IsKin (Now : Asking) (old : List Permission) (p : Permission) : Type 0 where
  pub before : Permission
  pub listed : IsIn before old
  pub ip : p.ip ≡ before.ip
  pub renewals : (n : ℕ) → IsIn n p.renewals → IsIn n before.renewals ⊎ IsNow Now n

abbrev pub AreKin : Asking → List Permission → List Permission → Type 0
AreKin Now old new = (p : Permission) → IsIn p new → IsKin Now old p

-- The transaction IDs of permissions that are requested over a transport are those of before, or are made
-- now, for each address of a request.
abbrev pub AreKnown : Asking → TransportType → List PendingPermission → List PendingPermission → Type 0
AreKnown Now transport old new = (p : PendingPermission) → IsIn p new → (n : ℕ) → IsIn n p.numbers → (ip : IpAddr) → IsIn ip (addresses_of p)
    → WasAsking old ip n ⊎ Now (run.Permission transport ip) n

-- A channel with the same number and peer was active before, and its requests are those of before, or are
-- made now.
pub record IsBoundKin (Now : Asking) (old : List Channel) (c : Channel) : Type 0 where
  pub before : Channel
  pub listed : IsIn before old
  pub number : c.number ≡ before.number
  pub peer : c.peer ≡ before.peer
  pub renewals : (n : ℕ) → IsIn n c.renewals → IsIn n before.renewals ⊎ Now (run.Channel c.number c.peer) n

abbrev pub AreBoundKin : Asking → List Channel → List Channel → Type 0
AreBoundKin Now old new = (c : Channel) → IsIn c new → IsBoundKin Now old c

-- A channel with the same number and peer was requested before, or is requested now; so are its transaction
-- IDs.
pub record IsWanted (Now : Asking) (old : List PendingChannel) (c : PendingChannel) : Type 0 where
  pub was : WasWanted old c ⊎ ((n : ℕ) × Now (run.Channel c.channel c.peer) n)
  pub numbers : (n : ℕ) → IsIn n c.numbers → WasWanting old c.channel c.peer n ⊎ Now (run.Channel c.channel c.peer) n

abbrev pub AreWanted : Asking → List PendingChannel → List PendingChannel → Type 0
AreWanted Now old new = (c : PendingChannel) → IsIn c new → IsWanted Now old c

pub kin_itself : (Now : Asking) (old : List Permission) → AreKin Now old old
kin_itself Now old p listed = record { before = p; listed = listed; ip = refl; renewals = λ n has. inl has }

pub known_itself : (Now : Asking) (transport : TransportType) (old : List PendingPermission) → AreKnown Now transport old old
known_itself Now transport old p listed n has ip named = inl (record { before = p; listed = listed; named = named; has = has })

pub bound_itself : (Now : Asking) (old : List Channel) → AreBoundKin Now old old
bound_itself Now old c listed = record { before = c; listed = listed; number = refl; peer = refl; renewals = λ n has. inl has }

pub wanted_itself : (Now : Asking) (old : List PendingChannel) → AreWanted Now old old
wanted_itself Now old c listed = record {
  was = inl (record { before = c; listed = listed; channel = refl; peer = refl });
  numbers = λ n has. inl (record { before = c; listed = listed; channel_is = refl; peer = refl; has = has });
}

module _ (New : Gaining) (Now : Asking) (a : Allocation) where
  -- An allocation with other lists of permissions and channels.
  pub with_all : (permissions : List Permission) (pending : List PendingPermission) (channels : List Channel) (wanted : List PendingChannel) → AreKin Now a.permissions permissions
      → AreKnown Now a.transport a.pending_permissions pending → AreBoundKin Now a.channels channels → AreWanted Now a.pending_channels wanted
      → IsPermitting New Now a (record a { permissions = permissions; pending_permissions = pending; channels = channels; pending_channels = wanted })
  with_all permissions pending channels wanted kin known bound are_wanted = record {
    transport = refl;
    address = refl;
    permissions = λ p listed. let k = kin p listed in inl (record { before = k.before; listed = k.listed; ip = k.ip });
    renewals = λ p n listed has. let k = kin p listed in elim (k.renewals n has) [
      | inl was ↦ inl (record { before = k.before; listed = k.listed; has = was })
      | inr now ↦ inr now
    ];
    numbers = λ p n listed has. known p listed n has;
    channels = λ c listed. let k = bound c listed in inl (record { before = k.before; listed = k.listed; number = k.number; peer = k.peer });
    channel_renewals = λ c n listed has. let k = bound c listed in elim (k.renewals n has) [
      | inl was ↦ inl (record { before = k.before; listed = k.listed; number_is = k.number; peer = k.peer; has = was })
      | inr now ↦ inr now
    ];
    new_channels = λ c listed. (are_wanted c listed).was;
    channel_numbers = λ c n listed has. (are_wanted c listed).numbers n has;
    refreshes = λ r h. h;
    connecting = λ c h. h;
    waiting = λ w h. h;
    connections = λ c h. h;
  }

  -- An allocation with other lists of permissions.
  pub with_lists : (permissions : List Permission) (pending : List PendingPermission) → AreKin Now a.permissions permissions → AreKnown Now a.transport a.pending_permissions pending
      → IsPermitting New Now a (record a { permissions = permissions; pending_permissions = pending })
  with_lists permissions pending kin known =
      with_all permissions pending a.channels a.pending_channels kin known (bound_itself Now a.channels) (wanted_itself Now a.pending_channels)

  -- An allocation with other lists of channels.
  pub with_channels : (channels : List Channel) (wanted : List PendingChannel) → AreBoundKin Now a.channels channels → AreWanted Now a.pending_channels wanted
      → IsPermitting New Now a (record a { channels = channels; pending_channels = wanted })
  with_channels channels wanted bound are_wanted =
      with_all a.permissions a.pending_permissions channels wanted (kin_itself Now a.permissions) (known_itself Now a.transport a.pending_permissions) bound are_wanted

  pub itself : IsPermitting New Now a a
  itself = with_lists a.permissions a.pending_permissions (kin_itself Now a.permissions) (known_itself Now a.transport a.pending_permissions)

  -- An allocation with permissions that were gained.
  pub with_permissions : (own : List Permission) (pending : List PendingPermission) → ((p : Permission) → IsIn p own → (p.renewals ≡ []) × New (run.Permission a.transport p.ip))
      → AreKnown Now a.transport a.pending_permissions pending
      → IsPermitting New Now a (record a { permissions = a.permissions ++ own; pending_permissions = pending })
  with_permissions own pending new known = record {
    transport = refl;
    address = refl;
    permissions = λ p listed. elim (in_either p a.permissions own listed) [
      | inl was ↦ inl (record { before = p; listed = was; ip = refl })
      | inr last ↦ inr (new p last).1
    ];
    renewals = λ p n listed has. elim (in_either p a.permissions own listed) [
      | inl was ↦ inl (record { before = p; listed = was; has = has })
      | inr last ↦ absurd (subst (λ (l : List ℕ). IsIn n l) (new p last).0 has)
    ];
    numbers = λ p n listed has. known p listed n has;
    channels = itself.channels;
    channel_renewals = itself.channel_renewals;
    new_channels = itself.new_channels;
    channel_numbers = itself.channel_numbers;
    refreshes = λ r h. h;
    connecting = λ c h. h;
    waiting = λ w h. h;
    connections = λ c h. h;
  }

  -- An allocation with a channel that was gained.
  pub with_channel : (own : Channel) (wanted : List PendingChannel) → own.renewals ≡ [] → New (run.Channel own.number own.peer) → AreWanted Now a.pending_channels wanted
      → IsPermitting New Now a (record a { channels = a.channels ++ own ∷ []; pending_channels = wanted })
  with_channel own wanted none new are_wanted = record {
    transport = refl;
    address = refl;
    permissions = itself.permissions;
    renewals = itself.renewals;
    numbers = itself.numbers;
    channels = λ c listed. elim (in_either c a.channels (own ∷ []) listed) [
      | inl was ↦ inl (record { before = c; listed = was; number = refl; peer = refl })
      | inr last ↦ elim last [ inl same ↦ inr (subst (λ (x : Channel). New (run.Channel x.number x.peer)) same new) | inr never ↦ absurd never ]
    ];
    channel_renewals = λ c n listed has. elim (in_either c a.channels (own ∷ []) listed) [
      | inl was ↦ inl (record { before = c; listed = was; number_is = refl; peer = refl; has = has })
      | inr last ↦ elim last [
        | inl same ↦ absurd (subst (λ (l : List ℕ). IsIn n l) (ap (λ (x : Channel). x.renewals) (sym same) ∙ none) has)
        | inr never ↦ absurd never
      ]
    ];
    new_channels = λ c listed. (are_wanted c listed).was;
    channel_numbers = λ c n listed has. (are_wanted c listed).numbers n has;
    refreshes = λ r h. h;
    connecting = λ c h. h;
    waiting = λ w h. h;
    connections = λ c h. h;
  }

-- ---- what it has, knows and awaits

module _ (New : Gaining) (Now : Asking) (before after : Allocation) (is : IsPermitting New Now before after) where
  pub has_before : (h : run.Held) → Has after h → Has before h ⊎ New h
  has_before h HasItself =
      inl (subst (λ (t : _). Has before (run.Allocation t after.address)) (sym is.transport)
      (subst (λ (a : _). Has before (run.Allocation before.transport a)) (sym is.address) HasItself))
  has_before h (HasPermission p listed) = elim (is.permissions p listed) [
    | inl was ↦
        inl (subst (λ (t : _). Has before (run.Permission t p.ip)) (sym is.transport)
        (subst (λ (ip : IpAddr). Has before (run.Permission before.transport ip)) (sym was.ip) (HasPermission was.before was.listed)))
    | inr new ↦ inr new
  ]
  has_before h (HasChannel c listed) = elim (is.channels c listed) [
    | inl was ↦
        inl (subst (λ (n : ℕ). Has before (run.Channel n c.peer)) (sym was.number)
        (subst (λ (x : SocketAddr). Has before (run.Channel was.before.number x)) (sym was.peer) (HasChannel was.before was.listed)))
    | inr new ↦ inr new
  ]
  has_before h (HasConnection c listed bound) = inl (HasConnection c (is.connections c listed) bound)

  pub knows_before : (n : ℕ) (peer : SocketAddr) → Knows after n peer → Knows before n peer
  knows_before n peer (ByWaiting w listed) = ByWaiting w (is.waiting w listed)
  knows_before n peer (ByConnection c listed) = ByConnection c (is.connections c listed)

  pub pending_before : (n : ℕ) → IsPending n after → IsPending n before ⊎ IsNow Now n
  pending_before n (OfPermission p listed has) = elim (is.renewals p n listed has) [
    | inl was ↦ inl (OfPermission was.before was.listed was.has)
    | inr now ↦ inr now
  ]
  pending_before n (OfNewPermission p listed has) = elim (is.numbers p n listed has p.ip (first_named p)) [
    | inl was ↦ inl (OfNewPermission was.before was.listed was.has)
    | inr now ↦ inr (run.Permission after.transport p.ip, now)
  ]
  pending_before n (OfChannel c listed has) = elim (is.channel_renewals c n listed has) [
    | inl was ↦ inl (OfChannel was.before was.listed was.has)
    | inr now ↦ inr (run.Channel c.number c.peer, now)
  ]
  pending_before n (OfNewChannel c listed has) = elim (is.channel_numbers c n listed has) [
    | inl was ↦ inl (OfNewChannel was.before was.listed was.has)
    | inr now ↦ inr (run.Channel c.channel c.peer, now)
  ]
  pending_before n (OfRefresh r listed has) = inl (OfRefresh r (is.refreshes r listed) has)
  pending_before n (OfConnect c listed has) = inl (OfConnect c (is.connecting c listed) has)
  pending_before n (OfAttempt w listed has) = inl (OfAttempt w (is.waiting w listed) has)
  pending_before n (OfBinding c listed b awaited has) = inl (OfBinding c (is.connections c listed) b awaited has)

-- ---- all of them

-- Nothing has changed.
pub all_themselves : (New : Gaining) (Now : Asking) (old : List Allocation) → ArePermitting New Now old old
all_themselves New Now old a listed = record { before = a; listed = listed; is = itself New Now a }

module _ (New : Gaining) (Now : Asking) (f : Allocation → Allocation) (is : (a : Allocation) → IsPermitting New Now a (f a)) where
  was_image : (old : List Allocation) (a : Allocation) → IsImage f a old → WasPermitting New Now old a
  was_image old a image = record {
    before = image.source;
    listed = image.listed;
    is = subst (λ (x : Allocation). IsPermitting New Now image.source x) (sym image.is) (is image.source);
  }

  pub each_permitting : (old : List Allocation) → ArePermitting New Now old (map f old)
  each_permitting old a listed = was_image old a (in_map f a old listed)

module _ (New : Gaining) (Now : Asking) (p : Parts) (new : List Allocation) (are : ArePermitting New Now p.allocations new) where
  pub stored_permitting : (h : run.Held) → IsStored new h → IsStored p.allocations h ⊎ New h
  stored_permitting h k =
      let was = are k.allocation k.listed in
      elim (has_before New Now was.before k.allocation was.is h k.has) [
        | inl before ↦ inl (record { allocation = was.before; listed = was.listed; has = before })
        | inr gained ↦ inr gained
      ]

  pub waits_permitting : (n : ℕ) (peer : SocketAddr) → Waits new n peer → Waits p.allocations n peer
  waits_permitting n peer h =
      let was = are h.allocation h.listed in
      record { allocation = was.before; listed = was.listed; knows = knows_before New Now was.before h.allocation was.is n peer h.knows }

  pub taken_permitting : (n : ℕ) → IsTaken (record p { allocations = new }) n → IsTaken p n ⊎ IsNow Now n
  taken_permitting n (Outstanding t there) = inl (Outstanding t there)
  taken_permitting n (Allocating listed) = inl (Allocating listed)
  taken_permitting n (Pending a listed pending) =
      let was = are a listed in
      elim (pending_before New Now was.before a was.is n pending) [
        | inl old ↦ inl (Pending was.before was.listed old)
        | inr now ↦ inr now
      ]

  pub attempted_permitting : (n : ℕ) → IsAttempted new p.queue n → IsAttempted p.allocations p.queue n
  attempted_permitting n (IsAnswered q listed response number) = IsAnswered q listed response number
  attempted_permitting n (IsWaiting a listed w has number) =
      let was = are a listed in
      IsWaiting was.before was.listed w (was.is.waiting w has) number

-- The allocations change in this way; the requests are among those that are made.
pub allocations_permitting : (started : List run.Message) (Now : Asking) (p : Parts) (new : List Allocation) → ArePermitting none_gained Now p.allocations new
    → ((held : run.Held) (n : ℕ) → Now held n → HasNumber n started) → Adds started p (record p { allocations = new })
allocations_permitting started Now p new are made = record {
  outstanding = λ m h. inl h;
  queued = λ m h. inl h;
  taken = λ n h. elim (taken_permitting none_gained Now p new are n h) [ inl was ↦ inl was | inr now ↦ inr (made now.0 n now.1) ];
  stored = λ h k. elim (stored_permitting none_gained Now p new are h k) [ inl was ↦ was | inr gained ↦ absurd gained ];
  waits = waits_permitting none_gained Now p new are;
  attempted = attempted_permitting none_gained Now p new are;
}
