-- What a message from the socket of a connection does to the bytes buffered from sockets.
use Rattle.std.proofs.Common.{◌≡◌, ℕ, ◌==◌, Bool, true, false, ◌&&◌, List, [], map, Option, Some, None, Ok, Err, refl, sym, ap, ◌∙◌, subst, inl, inr}
use Rattle.std.specs.List.{find}
use Rattle.std.specs.Prelude.{is_none, length, not, option_and_then}
use Rattle.std.specs.declared.net.socket_addr.SocketAddr.{SocketAddr}
use Rattle.turn_client_proto_timers.specs.StunTypesWire.Attributes.{kind_at}
use Rattle.turn_client_proto_timers.specs.StunTypesWire.Types.{class_of}
use Rattle.turn_client_proto_recv.specs.StunProtoClient.declared.error.LongTermClientAuthError.TheVariants.{Unauthorized, IntegrityFailed, UnsupportedFeature, NoMemory}
use Rattle.turn_client_proto_recv.specs.StunProtoClient.declared.validation.LongTermClientValidation.TheVariants.{ResendRequest, Validated}
use Rattle.turn_client_proto_timers.specs.StunProtoAgent.Handling.{is_awaited}
use Rattle.turn_client_proto_timers.specs.TurnRuns.Members.{IsIn}
use Rattle.turn_client_proto_timers.specs.Connection.Sockets.{closed, has_from, is_from}
use Rattle.turn_client_proto_timers.specs.Connection.Streams.{awaiting, first_raw, from, has_raw, waits_from, waits_in}
use Rattle.turn_client_proto_recv.specs.Processing.{IsAnswerProcessed, IsAnswerJudged, IsRequestedAnew, IsProcessedAt, IsOfBinding, IsSettled, requested_anew, awaited_at, bound_at, aborted, is_answer, is_of_binding, is_success_class}
use Rattle.turn_client_proto_recv.specs.declared.processing.Joining.{Joining}
use Rattle.turn_client_proto_timers.specs.Allocation.Same.{is_same_address}
use Rattle.turn_client_proto_recv.specs.Sockets.{binding_time}
use Rattle.turn_client_proto_timers.specs.StunTypesBase.Times.{time_after}
use Rattle.turn_client_proto_timers.specs.Core.Responding.{accepted, answered, judged}
use Rattle.turn_client_proto_timers.specs.Core.declared.protocol.Protocol.{Protocol}
use Rattle.turn_client_proto_step_laws.specs.Held.{Allocation, Binding, Connection}
use Rattle.turn_client_proto_step_laws.proofs.Finding.{any_changed, any_left, found_changed, found_image, found_left}
use Rattle.turn_client_proto_step_laws.proofs.Lessening.{each_less}
use Rattle.turn_client_proto_step_laws.proofs.Lists.{found_in, in_filter, in_first, in_map}
use Rattle.turn_client_proto_step_laws.proofs.Once.Judging.{Verdict}
use Rattle.turn_client_proto_step_laws.proofs.Parting.{closed_less}
use Rattle.turn_client_proto_step_laws.proofs.Polling.{by_test}
use Rattle.turn_client_proto_step_laws.proofs.SameSockets.{same_address}
use Rattle.turn_client_proto_step_laws.proofs.SocketsLeft.{NoneRaw, none_raw, of_less, raw_none, still_none}
use Rattle.turn_client_proto_step_laws.proofs.Streaming.{from_first, from_here}

-- ---- what becomes of the allocations

-- The allocations stay; or the connections with this own address are removed; or the first of them awaits
-- another response, or is bound.
pub data IsLeft (here : SocketAddr) (old new : List Allocation) : Type 0 where
  Stays : new ≡ old → IsLeft here old new
  Goes : new ≡ map (closed here) old → IsLeft here old new
  Turns : (awaited : Option Binding) → new ≡ waits_from here awaited old → IsLeft here old new

module _ (here : SocketAddr) (bytes : List ℕ) (now : ℕ) (new : Protocol) where
  breaks : (peer : SocketAddr) (p : Protocol) → new ≡ aborted here peer p → IsLeft here p.allocations new.allocations
  unfolding aborted
  breaks peer p is = Goes (ap (λ (x : Protocol). x.allocations) is)

  breaks_accepted : (peer : SocketAddr) (p : Protocol) → new ≡ aborted here peer (accepted bytes p) → IsLeft here p.allocations new.allocations
  unfolding aborted accepted
  breaks_accepted peer p is = Goes (ap (λ (x : Protocol). x.allocations) is)

  breaks_answered : (peer : SocketAddr) (p : Protocol) → new ≡ aborted here peer (answered bytes p) → IsLeft here p.allocations new.allocations
  unfolding aborted answered
  breaks_answered peer p is = Goes (ap (λ (x : Protocol). x.allocations) is)

  binds : (peer : SocketAddr) (p : Protocol) → new ≡ bound_at here peer (accepted bytes p) → IsLeft here p.allocations new.allocations
  unfolding bound_at accepted
  binds peer p is = Turns None (ap (λ (x : Protocol). x.allocations) is)

  asks_anew : (connection : ℕ) (p : Protocol) → IsRequestedAnew here connection now p new → IsLeft here p.allocations new.allocations
  unfolding requested_anew
  asks_anew connection p is = Turns (Some (record { number = is.number; expiry = time_after now binding_time })) (ap (λ (x : Protocol). x.allocations) is.after)

  settles : (peer : SocketAddr) (p : Protocol) → IsSettled here peer p bytes new → IsLeft here p.allocations new.allocations
  settles peer p h =
      by_test (is_awaited p.agent bytes)
      (λ (_ : is_awaited p.agent bytes ≡ true) one. by_test (is_success_class (class_of (kind_at bytes)))
      (λ (_ : is_success_class (class_of (kind_at bytes)) ≡ true) (o : new ≡ bound_at here peer (accepted bytes p)). binds peer p o)
      (λ (_ : is_success_class (class_of (kind_at bytes)) ≡ false) (o : new ≡ aborted here peer (accepted bytes p)). breaks_accepted peer p o)
      one)
      (λ (_ : is_awaited p.agent bytes ≡ false) (o : new ≡ aborted here peer p). breaks peer p o) h

  judges : (verdict : Verdict) (j : Joining) (p : Protocol) → IsAnswerJudged verdict here j p bytes now new → IsLeft here p.allocations new.allocations
  judges (Ok (ResendRequest choice)) j p h = asks_anew j.connection p h
  judges (Ok (Validated algorithm)) j p h = settles j.peer p h
  judges (Err NoMemory) j p h = absurd h
  judges (Err Unauthorized) j p h = breaks_answered j.peer p h
  judges (Err (IntegrityFailed algorithm)) j p h = breaks_answered j.peer p h
  judges (Err UnsupportedFeature) j p h = breaks_answered j.peer p h

  module _ (old : Protocol) where
    of_binding : (o : Option Joining) → IsOfBinding o here old bytes now new → IsLeft here old.allocations new.allocations
    of_binding None h = Stays (ap (λ (x : Protocol). x.allocations) h)
    of_binding (Some j) h =
        by_test (is_answer j.number bytes)
        (λ (_ : is_answer j.number bytes ≡ true) (o : IsAnswerProcessed here j old bytes now new). judges o.verdict j (judged o.auth old) o.outcome)
        (λ (_ : is_answer j.number bytes ≡ false) (o : new ≡ aborted here j.peer old). breaks j.peer old o) h

    pub processed_left : IsProcessedAt here old bytes now new → IsLeft here old.allocations new.allocations
    processed_left is =
        by_test (is_of_binding old bytes)
        (λ (_ : is_of_binding old bytes ≡ true) (o : IsOfBinding (awaited_at here old.allocations) here old bytes now new). of_binding (awaited_at here old.allocations) o)
        (λ (_ : is_of_binding old bytes ≡ false) (o : new ≡ old). Stays (ap (λ (x : Protocol). x.allocations) o)) is

-- ---- bytes that wait

-- Nothing is buffered of what came over the socket with this own address.
abbrev pub IsEmptyAt : SocketAddr → List Allocation → Type 0
IsEmptyAt here all = (k : Connection) → from here all ≡ Some k → k.stream.stored ≡ []

never_both : (b : Bool) → (b && false) ≡ true → ⊥
never_both true h = Prim.cc h
never_both false h = Prim.cc h

nothing_raw : (awaited : Option Binding) (stored : List ℕ) → stored ≡ [] → (is_none awaited && not (length stored == 0)) ≡ true → ⊥
nothing_raw awaited stored none h = never_both (is_none awaited) (subst (λ (l : List ℕ). (is_none awaited && not (length l == 0)) ≡ true) none h)

module _ (here : SocketAddr) (all : List Allocation) where
  turned_raw : (awaited : Option Binding) → IsEmptyAt here all → NoneRaw all → NoneRaw (waits_from here awaited all)
  turned_raw awaited nothing none a listed c there raw = elim (in_first (has_from here) (waits_in here awaited) a all listed) [
    | inl was ↦ none a was c there raw
    | inr changed ↦
        let before = changed.0 in
        let in_it : IsIn c (waits_in here awaited before).connections = subst (λ (x : Allocation). IsIn c x.connections) changed.2 there in
        elim (in_first (is_from here) (awaiting awaited) c before.connections in_it) [
          | inl was ↦ none before (found_in (has_from here) all before changed.1) c was raw
          | inr own ↦
              let k = own.0 in
              let is : from here all ≡ Some k = ap (option_and_then (λ (x : Allocation). find (is_from here) x.connections)) changed.1 ∙ own.1 in
              nothing_raw awaited k.stream.stored (nothing k is) (subst (λ (x : Connection). has_raw x ≡ true) own.2 raw)
        ]
  ]

  left_none : (new : List Allocation) → IsLeft here all new → IsEmptyAt here all → first_raw all ≡ None → first_raw new ≡ None
  left_none new (Stays is) nothing none = ap first_raw is ∙ none
  left_none new (Goes is) nothing none = ap first_raw is ∙ still_none all (map (closed here) all) (of_less all (map (closed here) all) (each_less [] (closed here) (closed_less here) all)) none
  left_none new (Turns awaited is) nothing none = ap first_raw is ∙ raw_none (waits_from here awaited all) (turned_raw awaited nothing (none_raw all none))

pub answered_none : (old new : Protocol) (here : SocketAddr) (bytes : List ℕ) (now : ℕ) → IsProcessedAt here old bytes now new → IsEmptyAt here old.allocations → first_raw old.allocations ≡ None → first_raw new.allocations ≡ None
answered_none old new here bytes now is nothing none = left_none here old.allocations new.allocations (processed_left here bytes now new old is) nothing none

-- ---- what is stored of each stream

-- The connection with this own address was there before, and its stream is unchanged.
pub record IsKeeping (there : SocketAddr) (old : List Allocation) (k : Connection) : Type 0 where
  pub before : Connection
  pub was : from there old ≡ Some before
  pub same : k.stream ≡ before.stream

module _ (here there : SocketAddr) (all : List Allocation) where
  -- What is found in an allocation that is found.
  joined_found : (x : Allocation) (k : Connection) → find (has_from there) all ≡ Some x → find (is_from there) x.connections ≡ Some k → from there all ≡ Some k
  joined_found x k found at = ap (option_and_then (λ (y : Allocation). find (is_from there) y.connections)) found ∙ at

  turned_keeps : (awaited : Option Binding) (k : Connection) → from there (waits_from here awaited all) ≡ Some k → IsKeeping there all k
  turned_keeps awaited k is =
      let first = from_first there (waits_from here awaited all) k is in
      let change = waits_in here awaited in
      let alike : (x : Allocation) → has_from there (change x) ≡ has_from there x =
      λ x. any_changed (is_from here) (awaiting awaited) (is_from there) (λ c. refl) x.connections in
      let was = found_changed (has_from here) change (has_from there) alike all first.allocation first.found in
      elim was.2 [
        | inl same ↦ record {
          before = k;
          was = joined_found was.0 k was.1 (subst (λ (x : Allocation). find (is_from there) x.connections ≡ Some k) same first.at);
          same = refl;
        }
        | inr changed ↦
            let at : find (is_from there) (change was.0).connections ≡ Some k = subst (λ (x : Allocation). find (is_from there) x.connections ≡ Some k) changed first.at in
            let own = found_changed (is_from here) (awaiting awaited) (is_from there) (λ c. refl) was.0.connections k at in
            record {
              before = own.0;
              was = joined_found was.0 own.0 was.1 own.1;
              same = elim own.2 [ inl same ↦ ap (λ (x : Connection). x.stream) same | inr other ↦ ap (λ (x : Connection). x.stream) other ];
            }
      ]

  gone_keeps : (k : Connection) → from there (map (closed here) all) ≡ Some k → IsKeeping there all k
  unfolding closed
  gone_keeps k is =
      let stays : Connection → Bool = λ c. not (is_from here c) in
      let first = from_first there (map (closed here) all) k is in
      let own : k.here ≡ there = from_here there (map (closed here) all) k is in
      let image = in_map (closed here) first.allocation all (found_in (has_from there) (map (closed here) all) first.allocation first.found) in
      let listed : IsIn k (closed here image.source).connections = subst (λ (x : Allocation). IsIn k x.connections) image.is (found_in (is_from there) first.allocation.connections k first.at) in
      let apart : not (is_same_address k.here here) ≡ true = (in_filter stays k image.source.connections listed).1 in
      let stand : (c : Connection) → is_from there c ≡ true → stays c ≡ true =
      λ c passes. subst (λ (x : SocketAddr). not (is_same_address x here) ≡ true) (own ∙ sym (same_address c.here there passes)) apart in
      let alike : (x : Allocation) → has_from there (closed here x) ≡ has_from there x = λ x. any_left stays (is_from there) stand x.connections in
      let was = found_image (closed here) (has_from there) alike all first.allocation first.found in
      let at : find (is_from there) (closed here was.0).connections ≡ Some k = subst (λ (x : Allocation). find (is_from there) x.connections ≡ Some k) was.2 first.at in
      record {
        before = k;
        was = joined_found was.0 k was.1 (sym (found_left stays (is_from there) stand was.0.connections) ∙ at);
        same = refl;
      }

  left_keeps : (new : List Allocation) → IsLeft here all new → (k : Connection) → from there new ≡ Some k → IsKeeping there all k
  left_keeps new (Stays is) k found = record { before = k; was = ap (from there) (sym is) ∙ found; same = refl }
  left_keeps new (Goes is) k found = gone_keeps k (ap (from there) (sym is) ∙ found)
  left_keeps new (Turns awaited is) k found = turned_keeps awaited k (ap (from there) (sym is) ∙ found)

pub answered_keeps : (old new : Protocol) (here there : SocketAddr) (bytes : List ℕ) (now : ℕ) (k : Connection) → IsProcessedAt here old bytes now new → from there new.allocations ≡ Some k → IsKeeping there old.allocations k
answered_keeps old new here there bytes now k is found = left_keeps here there old.allocations new.allocations (processed_left here bytes now new old is) k found
