-- A poll changes nothing of what a client holds before any of it expires.
use Rattle.std.proofs.Common.{append-nil, ◌≡◌, ℕ, suc, ◌+◌, ◌<◌, ◌≤◌, arith, drop, take, Bool, true, false, List, [], ◌∷◌, ◌++◌, filter, map, Option, Some, None, cond, refl, ap, ◌∙◌}
use Rattle.std.specs.Prelude.{find, nat_le, nat_lt, not, ◌&&◌}
use Rattle.std.specs.Option.{option_and_then}
use Rattle.std.specs.List.{flat_map, list_all, list_any, position_or_len}
use Rattle.std.proofs.lemmas.Bool.{leb-true, lt-leb, lt-ltb, or_parts}
use Rattle.turn_client_proto_allocation.specs.Channels as channel
use Rattle.turn_client_proto_allocation.specs.Changes.{without_first}
use Rattle.turn_client_proto_allocation.specs.Permissions.{has_expired, polled_permission, polled_permissions}
use Rattle.turn_client_proto_allocation.specs.Polling.{polled, stays, stored}
use Rattle.turn_client_proto_allocation.specs.declared.allocation.Allocation.{Allocation}
use Rattle.turn_client_proto_allocation.specs.declared.channel.Channel.{Channel}
use Rattle.turn_client_proto_allocation.specs.declared.channel.ExpiredChannel.{ExpiredChannel}
use Rattle.turn_client_proto_allocation.specs.declared.connection.Binding.{Binding}
use Rattle.turn_client_proto_allocation.specs.declared.connection.Connection.{Connection}
use Rattle.turn_client_proto_allocation.specs.declared.permission.Permission.{Permission}
use Rattle.turn_client_proto_connection.specs.Expiring as joined
use Rattle.turn_client_proto_connection.specs.Reported as connections
use Rattle.turn_client_proto_connection.specs.Waiting.{has_unasked, unasked, unasked_of}
use Rattle.turn_client_proto_peers.specs.Channel.Expiring as channels
use Rattle.turn_client_proto_peers.specs.Permission.Reporting as permissions
use Rattle.turn_client_proto_timers.specs.Quiet.{binds_until, connects_until, is_binding_until, lasts_until, permits_until, protects_until}
use Rattle.turn_client_proto_timers.specs.Reporting as reporting

-- ---- lists

pub both : (a b : Bool) → (a && b) ≡ true → (a ≡ true) × (b ≡ true)
both true b is = (refl, is)
both false b is = absurd (Prim.cc is)

module _ {X : Type 0} (lasts : X → Bool) where
  -- A test that all pass leaves all of a list, and one that none passes leaves none.
  all_stay : (stays_there : X → Bool) → ((x : X) → lasts x ≡ true → stays_there x ≡ true) → (xs : List X) → list_all lasts xs ≡ true → filter stays_there xs ≡ xs
  all_stay stays_there follows [] all = refl
  all_stay stays_there follows (x ∷ xs) all =
      let parts = both (lasts x) (list_all lasts xs) all in
      ap (λ (b : Bool). cond b (x ∷ filter stays_there xs) (filter stays_there xs)) (follows x parts.0)
      ∙ ap (λ (l : List X). x ∷ l) (all_stay stays_there follows xs parts.1)

  none_goes : (goes : X → Bool) → ((x : X) → lasts x ≡ true → goes x ≡ false) → (xs : List X) → list_all lasts xs ≡ true → filter goes xs ≡ []
  none_goes goes follows [] all = refl
  none_goes goes follows (x ∷ xs) all =
      let parts = both (lasts x) (list_all lasts xs) all in
      ap (λ (b : Bool). cond b (x ∷ filter goes xs) (filter goes xs)) (follows x parts.0) ∙ none_goes goes follows xs parts.1

  -- What changes none of them changes nothing.
  pub none_changes : (f : X → X) → ((x : X) → lasts x ≡ true → f x ≡ x) → (xs : List X) → list_all lasts xs ≡ true → map f xs ≡ xs
  none_changes f same [] all = refl
  none_changes f same (x ∷ xs) all =
      let parts = both (lasts x) (list_all lasts xs) all in
      ap (λ (y : X). y ∷ map f xs) (same x parts.0) ∙ ap (λ (l : List X). x ∷ l) (none_changes f same xs parts.1)

  -- What gives nothing of each gives nothing of all.
  pub none_given : {Y : Type 0} (f : X → List Y) → ((x : X) → lasts x ≡ true → f x ≡ []) → (xs : List X) → list_all lasts xs ≡ true → flat_map f xs ≡ []
  none_given f none [] all = refl
  none_given {Y = Y} f none (x ∷ xs) all =
      let parts = both (lasts x) (list_all lasts xs) all in
      ap (λ (l : List Y). l ++ flat_map f xs) (none x parts.0) ∙ none_given f none xs parts.1

-- What is asked of no element: a filter by a test that fails nothing.
nothing_over : {X : Type 0} (xs : List X) → filter (λ (x : X). true) xs ≡ xs
nothing_over [] = refl
nothing_over (x ∷ xs) = ap (λ l. x ∷ l) (nothing_over xs)

none_over : {X : Type 0} (xs : List X) → filter (λ (x : X). false) xs ≡ []
none_over [] = refl
none_over (x ∷ xs) = none_over xs

unchanged : {X : Type 0} (xs : List X) → map (λ (x : X). x) xs ≡ xs
unchanged [] = refl
unchanged (x ∷ xs) = ap (λ l. x ∷ l) (unchanged xs)

one_longer : {X : Type 0} (x : X) (xs : List X) (n k m : ℕ) → n ≡ suc m → k ≡ suc (m + 1) → take n (x ∷ xs) ++ drop k (x ∷ xs) ≡ x ∷ (take m xs ++ drop (m + 1) xs)
one_longer x xs n k m one two = ap (λ (z : ℕ). take z (x ∷ xs) ++ drop k (x ∷ xs)) one ∙ ap (λ (z : ℕ). x ∷ (take m xs ++ drop z (x ∷ xs))) two

none_lost : {X : Type 0} (xs : List X) → without_first (λ (x : X). false) xs ≡ xs
none_lost [] = refl
none_lost {X = X} (x ∷ xs) =
    let before : ℕ = position_or_len (λ (y : X). false) xs in
    one_longer x xs (1 + before) (1 + before + 1) before (omega arith) (omega arith) ∙ ap (λ (l : List X). x ∷ l) (none_lost xs)

none_found : {X : Type 0} (xs : List X) → find (λ (x : X). false) xs ≡ None
none_found [] = refl
none_found (x ∷ xs) = none_found xs

-- ---- sockets

-- If no socket is to be requested, none is found.
pub none_unasked : (all : List Allocation) → list_any has_unasked all ≡ false → unasked all ≡ None
none_unasked [] none = refl
none_unasked (a ∷ rest) none =
    let parts = or_parts (has_unasked a) (list_any has_unasked rest) none in
    ap (λ (b : Bool). option_and_then unasked_of (cond b (Some a) (find has_unasked rest))) parts.0 ∙ none_unasked rest parts.1

-- ---- what an allocation has

module _ (until now : ℕ) (before : now < until) where
  later : (expiry : ℕ) → nat_le until expiry ≡ true → nat_le expiry now ≡ false
  later expiry lasts = let long = leb-true until expiry lasts in lt-leb expiry now (omega (arith, long, before))

  stays_permitted : (p : Permission) → permits_until until p ≡ true → not (has_expired now p) ≡ true
  stays_permitted p lasts = ap not (later p.expiry lasts)

  pub same_permissions : (all : List Permission) → list_all (permits_until until) all ≡ true → polled_permissions None now all ≡ all
  unfolding polled_permission
  same_permissions all lasts =
      ap (map (polled_permission None)) (all_stay (permits_until until) (λ p. not (has_expired now p)) stays_permitted all lasts) ∙ unchanged all

  none_expired : (all : List Permission) → list_all (permits_until until) all ≡ true → permissions.addresses_expired now all ≡ []
  none_expired all lasts = ap (map (λ (p : Permission). p.ip)) (none_goes (permits_until until) (has_expired now) (λ p long. later p.expiry long) all lasts)

  none_expires : (all : List Channel) → list_all (binds_until until) all ≡ true → channels.last_index (channel.has_expired now) all ≡ None
  none_expires [] lasts = refl
  none_expires (c ∷ rest) lasts =
      let parts = both (binds_until until c) (list_all (binds_until until) rest) lasts in
      rw (none_expires rest parts.1, later c.expiry parts.0) refl

  stays_protected : (c : ExpiredChannel) → protects_until until c ≡ true → not (channel.is_forgotten now c) ≡ true
  stays_protected c lasts =
      let long = leb-true until (channel.protected_until c) lasts in
      ap not (not_before (channel.protected_until c) (omega (arith, long, before)))
    where
      not_before : (end : ℕ) → now ≤ end → nat_lt end now ≡ false
      not_before end more = lt-leb (suc end) now (omega (arith, more))

  stays_bound : (binding : Option Binding) → is_binding_until until binding ≡ true → joined.is_unanswered None now binding ≡ false
  stays_bound None lasts = refl
  stays_bound (Some b) lasts =
      let long = leb-true until b.expiry lasts in
      lt-leb (suc b.expiry) now (omega (arith, long, before))

  stays_connected : (c : Connection) → connects_until until c ≡ true → not (joined.has_gone None now c) ≡ true
  stays_connected c lasts = ap not (stays_bound c.awaited lasts)

  none_gone : (all : List Connection) → list_all (connects_until until) all ≡ true → filter (joined.has_gone None now) all ≡ []
  none_gone all lasts = none_goes (connects_until until) (joined.has_gone None now) (λ c long. stays_bound c.awaited long) all lasts

  -- ---- an allocation

  module _ (a : Allocation) (lasts : lasts_until until a ≡ true) where
    record Parts : Type 0 where
      itself : nat_le until a.expiry ≡ true
      permissions : list_all (permits_until until) a.permissions ≡ true
      channels : list_all (binds_until until) a.channels ≡ true
      protected : list_all (protects_until until) a.expired_channels ≡ true
      connections : list_all (connects_until until) a.connections ≡ true

    lasting_parts : Parts
    lasting_parts =
        let one = both (nat_le until a.expiry) _ lasts in
        let two = both (list_all (permits_until until) a.permissions) _ one.1 in
        let three = both (list_all (binds_until until) a.channels) _ two.1 in
        let four = both (list_all (protects_until until) a.expired_channels) _ three.1 in
        record { itself = one.0; permissions = two.0; channels = three.0; protected = four.0; connections = four.1 }

    pub is_stored : stays None now a ≡ true
    unfolding stays
    is_stored =
        let long = leb-true until a.expiry lasting_parts.itself in
        let first = lt-ltb now a.expiry (omega (arith, long, before)) in
        rw first refl

    same_allocation : reporting.polled None now a ≡ a
    unfolding permissions.polled channels.polled channels.expired connections.given_up joined.polled channel.polled_channel
    same_allocation =
        rw (
          same_permissions a.permissions lasting_parts.permissions,
          nothing_over a.pending_permissions,
          none_expires a.channels lasting_parts.channels,
          unchanged a.channels,
          nothing_over a.pending_channels,
          append-nil a.expired_channels,
          all_stay (protects_until until) (λ c. not (channel.is_forgotten now c)) stays_protected a.expired_channels lasting_parts.protected,
          nothing_over a.connecting,
          all_stay (connects_until until) (λ c. not (joined.has_gone None now c)) stays_connected a.connections lasting_parts.connections,
          none_lost a.waiting,
        ) refl

    no_failure : reporting.failures None now a ≡ []
    unfolding reporting.failures reporting.relay_failures reporting.connection_failures
    no_failure =
        rw (
          none_over a.pending_permissions,
          none_over a.pending_channels,
          none_expired a.permissions lasting_parts.permissions,
          none_expires a.channels lasting_parts.channels,
          none_over a.connecting,
          none_gone a.connections lasting_parts.connections,
          none_found a.waiting,
        ) refl

    no_socket : joined.sockets_gone None now a.connections ≡ []
    no_socket = ap (map (λ (c : Connection). c.here)) (none_gone a.connections lasting_parts.connections)

  -- ---- all allocations

  module _ (all : List Allocation) (lasting : list_all (lasts_until until) all ≡ true) where
    pub same_stored : stored None now all ≡ all
    same_stored = all_stay (lasts_until until) (stays None now) is_stored all lasting

    pub same_polled : map (polled None) all ≡ all
    unfolding polled
    same_polled = unchanged all

    pub same_left : map (reporting.polled None now) all ≡ all
    same_left = none_changes (lasts_until until) (reporting.polled None now) same_allocation all lasting

    pub no_failures : reporting.all_failures None now all ≡ []
    no_failures = none_given (lasts_until until) (reporting.failures None now) no_failure all lasting

    pub no_sockets : joined.all_gone None now all ≡ []
    no_sockets = none_given (lasts_until until) (λ (a : Allocation). joined.sockets_gone None now a.connections) no_socket all lasting
