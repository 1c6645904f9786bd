-- In a span in which nothing is due, a poll finds the same times as the walk that found the span.
use Rattle.std.proofs.Common.{append-nil, ◌≡◌, ◌≢◌, ℕ, suc, zero, ◌<◌, ◌≤◌, arith, Bool, true, false, List, [], ◌∷◌, ◌++◌, map, Option, Some, None, max, min, refl, sym, ap, ◌∙◌, subst, inl, inr}
use Rattle.std.specs.Prelude.{◌⊎◌, All, nat_le, nat_lt, find, if◌then◌else◌}
use Rattle.std.specs.List.{Contains, cons_option, filter_map, flat_map, list_all}
use Rattle.std.specs.Option.{option_and_then}
use Rattle.std.specs.declared.net.socket_addr.SocketAddr.{SocketAddr}
use Rattle.std.proofs.lemmas.Bool.{leb-false, leb-true, lt-leb, lt-ltb}
use Rattle.stun_types_base.specs.Times.{time_after}
use Rattle.turn_client_proto_allocation.specs.Awaited.{is_among}
use Rattle.turn_client_proto_allocation.specs.Channels as channel
use Rattle.turn_client_proto_allocation.specs.Permissions.{are_none, has_expired, next_of_permission, permission_renewal}
use Rattle.turn_client_proto_allocation.specs.Polling.{has_ended, next_of, nexts, polled}
use Rattle.turn_client_proto_allocation.specs.Refreshing.{is_settled, renewal}
use Rattle.turn_client_proto_allocation.specs.StunProtoTransaction.Least.{IsLeastOf}
use Rattle.turn_client_proto_allocation.specs.declared.allocation.Allocation.{Allocation}
use Rattle.turn_client_proto_allocation.specs.declared.channel.Channel.{Channel}
use Rattle.turn_client_proto_allocation.specs.declared.permission.Permission.{Permission}
use Rattle.turn_client_proto_allocation.specs.declared.refresh.PendingRefresh.{PendingRefresh}
use Rattle.turn_client_proto_connection.specs.Expiring as joined
use Rattle.turn_client_proto_peers.specs.Channel.Expiring as channels
use Rattle.turn_client_proto_peers.specs.Permission.Reporting as permissions
use Rattle.turn_client_proto_api.specs.declared.answer.TurnPollRet.TheVariants as answer
use Rattle.turn_client_proto_connection.specs.Waiting.{unasked}
use Rattle.turn_client_proto_core.specs.declared.protocol.Protocol.{Protocol}
use Rattle.turn_client_proto_timers.proofs.Lasting.{both, no_failures, no_sockets, none_unasked, same_left, same_polled, same_stored}
use Rattle.turn_client_proto_timers.proofs.Unsent.{none_due, ready_by}
use Rattle.turn_client_proto_timers.specs.Drawing.{is_resting}
use Rattle.turn_client_proto_timers.specs.Polling.{AreAllocationsPolled, IsClosing, IsPolledStanding, after_time, answer_of, left, pace_of, ready_after}
use Rattle.turn_client_proto_timers.specs.Quiet.{IsQuiet, binds_until, lasts_until, permits_until}
use Rattle.turn_client_proto_timers.specs.Reporting as reporting
use Rattle.turn_client_proto_timers.specs.Wanting.{want, wanted, wants}
use Rattle.turn_client_proto_timers.specs.declared.quiet.Quiet.{Quiet}

-- ---- least elements

-- The least of fewer and the same numbers.
pub less_within : (most least fewer : ℕ) (numbers : List ℕ) → IsLeastOf most numbers least → fewer ≤ most → IsLeastOf fewer numbers (min fewer least)
less_within most least fewer numbers is less = record {
  within = omega arith;
  below = λ k d there. let below = is.below k d there in omega (arith, below);
  reached = elim is.reached as (λ _. (min fewer least ≡ fewer) ⊎ Contains numbers (min fewer least)) [
    | inl same ↦ inl (let first : min fewer least ≡ fewer = omega (arith, same, less) in first)
    | inr found ↦ by_lesser (nat_le fewer least) refl found
  ];
}
  where
    by_lesser : (b : Bool) → nat_le fewer least ≡ b → Contains numbers least → (min fewer least ≡ fewer) ⊎ Contains numbers (min fewer least)
    by_lesser true short found = let short_one = leb-true fewer least short in inl (let first : min fewer least ≡ fewer = omega (arith, short_one) in first)
    by_lesser false long found =
        let longer : min fewer least ≡ least = omega (arith, leb-false fewer least long) in
        inr (subst (Contains numbers) (sym longer) found)

-- The same with both bounds made less.
lesser : (wait most least : ℕ) (numbers : List ℕ) → IsLeastOf most numbers least → IsLeastOf (min wait most) numbers (min wait least)
lesser wait most least numbers is =
    let within = is.within in
    let same : min (min wait most) least ≡ min wait least = omega (arith, within) in
    subst (IsLeastOf (min wait most) numbers) same (less_within most least (min wait most) numbers is (omega arith))

-- ---- lists of times

-- All of them are this number or more.
abbrev AreFrom : ℕ → List ℕ → Type 0
AreFrom until numbers = All (λ n. until ≤ n) numbers

after_head : (until n : ℕ) (rest : List ℕ) → AreFrom until (n ∷ rest) → AreFrom until rest
after_head until n rest all = λ k d less. all (suc k) d (omega (arith, less))

of_first : (until n : ℕ) (rest : List ℕ) → AreFrom until (n ∷ rest) → until ≤ n
of_first until n rest all = all 0 0 (omega arith)

of_option : (until : ℕ) (o : Option ℕ) (rest : List ℕ) → AreFrom until (cons_option o rest) → (time : ℕ) → o ≡ Some time → until ≤ time
of_option until None rest all time is = absurd (Prim.cc is)
of_option until (Some n) rest all time is = let same : n ≡ time = Prim.cc is in let first = of_first until n rest all in omega (arith, same, first)

after_option : (until : ℕ) (o : Option ℕ) (rest : List ℕ) → AreFrom until (cons_option o rest) → AreFrom until rest
after_option until None rest all = all
after_option until (Some n) rest all = after_head until n rest all

in_two : (until : ℕ) (one other : List ℕ) → AreFrom until (one ++ other) → AreFrom until one × AreFrom until other
in_two until [] other all = ((λ k d less. absurd (omega (arith, less))), all)
in_two until (n ∷ one) other all =
    let rest = in_two until one other (after_head until n (one ++ other) all) in
    (joined_with n one (of_first until n (one ++ other) all) rest.0, rest.1)
  where
    joined_with : (n : ℕ) (one : List ℕ) → until ≤ n → AreFrom until one → AreFrom until (n ∷ one)
    joined_with n one here there zero d less = here
    joined_with n one here there (suc k) d less = there k d (omega (arith, less))

module _ {X : Type 0} (until : ℕ) (lasts : X → Bool) where
  same_each : (one other : X → ℕ) → ((x : X) → lasts x ≡ true → until ≤ one x → one x ≡ other x) → (xs : List X) → list_all lasts xs ≡ true → AreFrom until (map one xs) → map one xs ≡ map other xs
  same_each one other same [] lasting all = refl
  same_each one other same (x ∷ xs) lasting all =
      let parts = both (lasts x) (list_all lasts xs) lasting in
      ap (λ (n : ℕ). n ∷ map one xs) (same x parts.0 (of_first until (one x) (map one xs) all))
      ∙ ap (λ (l : List ℕ). other x ∷ l) (same_each one other same xs parts.1 (after_head until (one x) (map one xs) all))

  same_some : (one other : X → Option ℕ) → ((x : X) → lasts x ≡ true → ((time : ℕ) → one x ≡ Some time → until ≤ time) → one x ≡ other x) → (xs : List X) → list_all lasts xs ≡ true
      → AreFrom until (filter_map one xs) → filter_map one xs ≡ filter_map other xs
  same_some one other same [] lasting all = refl
  same_some one other same (x ∷ xs) lasting all =
      let parts = both (lasts x) (list_all lasts xs) lasting in
      ap (λ (o : Option ℕ). cons_option o (filter_map one xs)) (same x parts.0 (of_option until (one x) (filter_map one xs) all))
      ∙ ap (λ (l : List ℕ). cons_option (other x) l) (same_some one other same xs parts.1 (after_option until (one x) (filter_map one xs) all))

  same_lists : (one other : X → List ℕ) → ((x : X) → lasts x ≡ true → AreFrom until (one x) → one x ≡ other x) → (xs : List X) → list_all lasts xs ≡ true
      → AreFrom until (flat_map one xs) → flat_map one xs ≡ flat_map other xs
  same_lists one other same [] lasting all = refl
  same_lists one other same (x ∷ xs) lasting all =
      let parts = both (lasts x) (list_all lasts xs) lasting in
      let ranges = in_two until (one x) (flat_map one xs) all in
      ap (λ (l : List ℕ). l ++ flat_map one xs) (same x parts.0 ranges.0)
      ∙ ap (λ (l : List ℕ). other x ++ l) (same_lists one other same xs parts.1 ranges.1)

-- ---- the times of a walk, at the start of the span and later

-- A time that is put off until a request can be sent is put off to the same time.
put_off : (renewed sends since now until : ℕ) → since ≤ now → now < until → until ≤ max renewed (max sends since) → max renewed (max sends since) ≡ max renewed (max sends now)
put_off renewed sends since now until from before within = omega (arith, from, before, within)

pub same_ready : (pace : ℕ) (last : Option ℕ) (since now until renewed : ℕ) → since ≤ now → now < until → until ≤ max renewed (ready_after pace last since)
    → max renewed (ready_after pace last since) ≡ max renewed (ready_after pace last now)
same_ready pace None since now until renewed from before within = omega (arith, from, before, within)
same_ready pace (Some last) since now until renewed from before within = put_off renewed (time_after last pace) since now until from before within

module _ (until since now ready later : ℕ) (from : since ≤ now) (before : now < until) (same : (renewed : ℕ) → until ≤ max renewed ready → max renewed ready ≡ max renewed later) where
  by_renewals : (renewals : List ℕ) (one other : Bool) (renewed expiry : ℕ) → one ≡ false → other ≡ false
      → until ≤ (if one then since else (if is_among None renewals then ready else (if are_none renewals then max renewed ready else expiry)))
      → (if one then since else (if is_among None renewals then ready else (if are_none renewals then max renewed ready else expiry)))
      ≡ (if other then now else (if is_among None renewals then later else (if are_none renewals then max renewed later else expiry)))
  by_renewals renewals true other renewed expiry is other_is within = absurd (Prim.cc is)
  by_renewals renewals false true renewed expiry is other_is within = absurd (Prim.cc other_is)
  by_renewals [] false false renewed expiry is other_is within = same renewed within
  by_renewals (r ∷ rs) false false renewed expiry is other_is within = refl

  by_refreshes : (refreshes : List PendingRefresh) (one other : Bool) (renewed expiry : ℕ) → one ≡ true → other ≡ true
      → ((time : ℕ) → (if is_settled refreshes then Some (max renewed ready) else (if has_ended None refreshes then Some ready else (if one then Some expiry else None))) ≡ Some time → until ≤ time)
      → (if is_settled refreshes then Some (max renewed ready) else (if has_ended None refreshes then Some ready else (if one then Some expiry else None)))
      ≡ (if is_settled refreshes then Some (max renewed later) else (if has_ended None refreshes then Some later else (if other then Some expiry else None)))
  by_refreshes refreshes false other renewed expiry is other_is within = absurd (Prim.cc is)
  by_refreshes refreshes true false renewed expiry is other_is within = absurd (Prim.cc other_is)
  by_refreshes [] true true renewed expiry is other_is within = ap (λ (n : ℕ). Some n) (same renewed (within (max renewed ready) refl))
  by_refreshes (r ∷ rs) true true renewed expiry is other_is within = refl

  not_over : (expiry : ℕ) → nat_le until expiry ≡ true → (nat_le expiry since ≡ false) × (nat_le expiry now ≡ false)
  not_over expiry lasts =
      let long = leb-true until expiry lasts in
      (lt-leb expiry since (omega (arith, long, from, before)), lt-leb expiry now (omega (arith, long, before)))

  same_permission : (p : Permission) → permits_until until p ≡ true → until ≤ next_of_permission None ready since p → next_of_permission None ready since p ≡ next_of_permission None later now p
  unfolding next_of_permission
  same_permission p lasts within =
      let over = not_over p.expiry lasts in
      by_renewals p.renewals (has_expired since p) (has_expired now p) (permission_renewal p) p.expiry over.0 over.1 within

  same_channel : (c : Channel) → binds_until until c ≡ true → until ≤ channel.next_of_channel None ready since c → channel.next_of_channel None ready since c ≡ channel.next_of_channel None later now c
  unfolding channel.next_of_channel
  same_channel c lasts within =
      let over = not_over c.expiry lasts in
      by_renewals c.renewals (channel.has_expired since c) (channel.has_expired now c) (channel.channel_renewal c) c.expiry over.0 over.1 within

  same_next : (a : Allocation) → lasts_until until a ≡ true → ((time : ℕ) → next_of None ready since a ≡ Some time → until ≤ time) → next_of None ready since a ≡ next_of None later now a
  unfolding next_of
  same_next a lasts within =
      let long = leb-true until a.expiry (both (nat_le until a.expiry) _ lasts).0 in
      by_refreshes a.pending_refreshes (nat_lt since a.expiry) (nat_lt now a.expiry) (renewal a) a.expiry (lt-ltb since a.expiry (omega (arith, long, from, before))) (lt-ltb now a.expiry (omega (arith, long, before))) within

  module _ (all : List Allocation) (lasting : list_all (lasts_until until) all ≡ true) where
    pub same_nexts : AreFrom until (nexts None ready since all) → nexts None ready since all ≡ nexts None later now all
    same_nexts within = same_some until (lasts_until until) (next_of None ready since) (next_of None later now) same_next all lasting within

    pub same_of_permissions : AreFrom until (permissions.all_nexts None ready since all) → permissions.all_nexts None ready since all ≡ permissions.all_nexts None later now all
    same_of_permissions within = same_lists until (lasts_until until) (permissions.nexts None ready since) (permissions.nexts None later now)
        (λ a lasts each. same_each until (permits_until until) (next_of_permission None ready since) (next_of_permission None later now) same_permission a.permissions (permitted a lasts) each) all lasting within
      where
        permitted : (a : Allocation) → lasts_until until a ≡ true → list_all (permits_until until) a.permissions ≡ true
        permitted a lasts = (both (list_all (permits_until until) a.permissions) _ (both (nat_le until a.expiry) _ lasts).1).0

    pub same_of_channels : AreFrom until (channels.all_nexts None ready since all) → channels.all_nexts None ready since all ≡ channels.all_nexts None later now all
    same_of_channels within = same_lists until (lasts_until until) (channels.nexts None ready since) (channels.nexts None later now)
        (λ a lasts each. same_each until (binds_until until) (channel.next_of_channel None ready since) (channel.next_of_channel None later now) same_channel a.channels (bound a lasts) each) all lasting within
      where
        bound : (a : Allocation) → lasts_until until a ≡ true → list_all (binds_until until) a.channels ≡ true
        bound a lasts =
            let rest = (both (nat_le until a.expiry) _ lasts).1 in
            (both (list_all (binds_until until) a.channels) _ (both (list_all (permits_until until) a.permissions) _ rest).1).0

-- ---- a poll, and what is sent

module _ (p : Protocol) (q : Quiet) (wait now : ℕ) (is : IsQuiet p q) (from : q.since ≤ now) (before : now < q.until) where
  abbrev all : List Allocation
  all = p.allocations

  abbrev ready : ℕ
  ready = ready_after (pace_of p) p.last_send q.since

  abbrev later : ℕ
  later = ready_after (pace_of p) p.last_send now

  same : (renewed : ℕ) → q.until ≤ max renewed ready → max renewed ready ≡ max renewed later
  same renewed within = same_ready (pace_of p) p.last_send q.since now q.until renewed from before within

  same_list : left None now p ≡ all
  same_list = ap (map (polled None)) (same_stored q.until now before all is.lasting) ∙ same_polled q.until now before all is.lasting

  same_client : after_time None now p ≡ p
  unfolding after_time
  same_client =
      rw (same_list, same_left q.until now before all is.lasting, no_failures q.until now before all is.lasting, no_sockets q.until now before all is.lasting, append-nil p.events, append-nil p.closing) refl

  next_below : AreFrom q.until (nexts None ready q.since all)
  next_below = λ k d there.
      let below = is.least.below k d there in
      let one = is.least_of_permissions.within in
      let two = is.least_of_channels.within in
      let three = is.least_of_connections.within in
      omega (arith, below, one, two, three)

  sooner_below : AreFrom q.until (permissions.all_nexts None ready q.since all)
  sooner_below = λ k d there.
      let below = is.least_of_permissions.below k d there in
      let two = is.least_of_channels.within in
      let three = is.least_of_connections.within in
      omega (arith, below, two, three)

  earliest_below : AreFrom q.until (channels.all_nexts None ready q.since all)
  earliest_below = λ k d there.
      let below = is.least_of_channels.below k d there in
      let three = is.least_of_connections.within in
      omega (arith, below, three)

  nothing_closed : p.closing ≡ [] → p.closing ++ joined.all_gone None now (left None now p) ≡ []
  nothing_closed none =
      ap (λ (l : List Allocation). p.closing ++ joined.all_gone None now l) same_list
      ∙ ap (λ (l : List SocketAddr). p.closing ++ l) (no_sockets q.until now before all is.lasting) ∙ append-nil p.closing ∙ none

  waits_on : (some : List Allocation) → some ≢ [] → answer_of some None now (min wait q.until) ≡ answer.WaitUntil (max (min wait q.until) now)
  waits_on [] there = absurd (there refl)
  waits_on (a ∷ others) there = refl

  closes : p.closing ≡ [] → p.allocations ≢ []
      → IsClosing (p.closing ++ joined.all_gone None now (left None now p)) (answer_of (left None now p) None now (min wait q.until)) (after_time None now p) (answer.WaitUntil (max (min wait q.until) now)) p
  closes none some =
      subst (λ (l : List SocketAddr). IsClosing l (answer_of (left None now p) None now (min wait q.until)) (after_time None now p) (answer.WaitUntil (max (min wait q.until) now)) p) (sym (nothing_closed none))
      (sym (ap (λ (l : List Allocation). answer_of l None now (min wait q.until)) same_list ∙ waits_on all some), sym same_client)

  -- In the span, a poll changes nothing, and tells its end or `wait`.
  pub polled_quietly : wait ≤ q.horizon → p.closing ≡ [] → p.allocations ≢ [] → AreAllocationsPolled None wait p now (answer.WaitUntil (max (min wait q.until) now)) p
  polled_quietly within none some = record {
    next = min wait is.next;
    least = subst (λ (l : List ℕ). IsLeastOf wait l (min wait is.next))
        (same_nexts q.until q.since now ready later from before same all is.lasting next_below ∙ ap (nexts None later now) (sym (same_stored q.until now before all is.lasting)))
        (less_within q.horizon is.next wait (nexts None ready q.since all) is.least within);
    sooner = min wait is.sooner;
    least_of_permissions = subst (λ (l : List ℕ). IsLeastOf (min wait is.next) l (min wait is.sooner))
        (same_of_permissions q.until q.since now ready later from before same all is.lasting sooner_below ∙ ap (permissions.all_nexts None later now) (sym same_list))
        (lesser wait is.next is.sooner (permissions.all_nexts None ready q.since all) is.least_of_permissions);
    earliest = min wait is.earliest;
    least_of_channels = subst (λ (l : List ℕ). IsLeastOf (min wait is.sooner) l (min wait is.earliest))
        (same_of_channels q.until q.since now ready later from before same all is.lasting earliest_below ∙ ap (channels.all_nexts None later now) (sym same_list))
        (lesser wait is.sooner is.earliest (channels.all_nexts None ready q.since all) is.least_of_channels);
    first = min wait q.until;
    least_of_connections = subst (λ (l : List Allocation). IsLeastOf (min wait is.earliest) (joined.all_nexts l) (min wait q.until)) (sym same_list)
        (lesser wait is.earliest q.until (joined.all_nexts all) is.least_of_connections);
    outcome = closes none some;
  }

  standing_quietly : unasked p.allocations ≡ None → AreAllocationsPolled None wait p now (answer.WaitUntil (max (min wait q.until) now)) p → IsPolledStanding None wait p now (answer.WaitUntil (max (min wait q.until) now)) p
  standing_quietly none polled = rw none polled

  pub answered_quietly : wait ≤ q.horizon → p.closing ≡ [] → p.allocations ≢ [] → IsPolledStanding None wait p now (answer.WaitUntil (max (min wait q.until) now)) p
  answered_quietly within none some = standing_quietly (none_unasked p.allocations is.none_waits) (polled_quietly within none some)

  -- In the span nothing is renewed, once another message may be sent.
  pub none_wanted : is_resting (pace_of p) p.last_send now ≡ false → wanted now p.allocations ≡ None
  none_wanted free =
      let short : q.since < q.until = omega (arith, from, before) in
      let one = is.least_of_permissions.within in
      let two = is.least_of_channels.within in
      let three = is.least_of_connections.within in
      let before_channels : now < is.earliest = omega (arith, before, three) in
      let before_permissions : now < is.sooner = omega (arith, before_channels, two) in
      let before_next : now < is.next = omega (arith, before_permissions, one) in
      let later_channels : q.since < is.earliest = omega (arith, from, before_channels) in
      let later_permissions : q.since < is.sooner = omega (arith, from, before_permissions) in
      let same_all = same_polled q.until q.since short all is.lasting in
      let none = none_due is.next ready q.since now (ready_by (pace_of p) p.last_send q.since now from free) before_next is.sooner is.earliest
      before_permissions later_permissions before_channels later_channels all is.least.below
      (subst (λ (l : List Allocation). AreFrom is.sooner (permissions.all_nexts None ready q.since l)) (sym same_all) is.least_of_permissions.below)
      (subst (λ (l : List Allocation). AreFrom is.earliest (channels.all_nexts None ready q.since l)) (sym same_all) is.least_of_channels.below) in
      let stays : map (reporting.polled None q.since) (map (polled None) all) ≡ all = ap (map (reporting.polled None q.since)) same_all ∙ same_left q.until q.since short all is.lasting in
      ap (option_and_then (want now)) (ap (find (wants now)) (sym stays) ∙ none)
