-- When a client may request a permission, and what becomes of it then.
use Rattle.std.proofs.Common.{◌≡◌, ◌≢◌, ℕ, ◌<◌, arith, Bool, true, false, ◌||◌, List, [], ◌∷◌, Option, Some, None, refl, sym, ap, ◌∙◌, subst, inl, inr}
use Rattle.std.specs.Prelude.{◌&&◌, if◌then◌else◌, MatchResult, IfNone, IfSome, Result, Ok, Err, find, is_some}
use Rattle.std.specs.FinMap as finite
use Rattle.std.specs.List.{list_any}
use Rattle.std.specs.declared.net.ip_addr.IpAddr.{IpAddr}
use Rattle.std.specs.declared.net.socket_addr.SocketAddr.{SocketAddr}
use Rattle.std.proofs.lemmas.Bool.{cases_Bool, eq-eqb, leb-false, lt-leb}
use Rattle.turn_client_proto_messages.specs.StunTypesBase.Family.{family_of_ip, family_of_socket}
use Rattle.turn_client_proto_messages.specs.StunTypesWire.Grammar.{number_at}
use Rattle.turn_client_proto_messages.specs.StunTypesBase.declared.family.AddressFamily.{AddressFamily}
use Rattle.turn_client_proto_messages.specs.StunTypesBase.declared.family.AddressFamily.TheVariants.{IPV4, IPV6}
use Rattle.turn_client_proto_messages.specs.StunTypesBase.declared.transport.TransportType.{TransportType}
use Rattle.turn_client_proto_messages.specs.StunTypesBase.declared.transport.TransportType.TheVariants.{Udp, Tcp}
use Rattle.turn_client_proto_messages.specs.StunProtoTransaction.Agents.{Transaction}
use Rattle.turn_client_proto_messages.specs.StunProtoTransaction.Schedule.{end_at}
use Rattle.turn_client_proto_messages.specs.StunProtoAgent.Sending.{started}
use Rattle.turn_client_proto_messages.specs.Allocation.Awaited.{asks_for_channel, asks_for_permission, is_awaited, is_refresh, renews_channel, renews_permission}
use Rattle.turn_client_proto_messages.specs.Allocation.Changes.{change_first}
use Rattle.turn_client_proto_messages.specs.Allocation.Listed.{is_any_awaited}
use Rattle.turn_client_proto_messages.specs.Allocation.declared.allocation.Allocation.{Allocation}
use Rattle.turn_client_proto_messages.specs.Allocation.declared.permission.PendingPermission.{PendingPermission}
use Rattle.turn_client_proto_messages.specs.Api.declared.error.CreatePermissionError.{CreatePermissionError}
use Rattle.turn_client_proto_messages.specs.Api.declared.error.CreatePermissionError.TheVariants as not_permitted
use Rattle.turn_client_proto_handshake_laws.specs.Core.Asking.{requested}
use Rattle.turn_client_proto_handshake_laws.specs.Core.Deleting.{is_authenticated}
use Rattle.turn_client_proto_handshake_laws.specs.Core.Numbering.{after_number, awaits, is_taken}
use Rattle.turn_client_proto_handshake_laws.specs.Core.Permitting.{IsPermissionAnswered, IsPermissionRequested, after_asking, allocation_for, permission_refusal, refusal_in, refused_in}
use Rattle.turn_client_proto_messages.specs.Requests.{request_text}
use Rattle.turn_client_proto_messages.specs.declared.request.TurnRequest.TheVariants.{CreatePermission}
use Rattle.turn_client_proto_handshake_laws.specs.Core.declared.protocol.Phase.{Phase}
use Rattle.turn_client_proto_handshake_laws.specs.Core.declared.protocol.Phase.TheVariants.{Initial, InitialSent, Authenticating, Authenticated, Ended}
use Rattle.turn_client_proto_handshake_laws.specs.Core.declared.protocol.Protocol.{Protocol}
use Rattle.turn_client_proto_messages.specs.TurnRuns.Members.{IsIn}
use Rattle.turn_client_proto_step_laws.specs.Peers.Permission.Asking.{asking, is_of, is_past, knows}
use Rattle.turn_client_proto_messages.specs.Allocation.Same.{is_same_transport}
use Rattle.turn_client_proto_messages.specs.Api.Families.{is_same_family}
use Rattle.turn_client_proto_messages.proofs.Reading.{number_law}
use Rattle.turn_client_proto_step_laws.proofs.Numbers.{number_small}
use Rattle.turn_client_proto_progress_laws.proofs.Asking.Tools.{put_or, put_there}
use Rattle.turn_client_proto_handshake_laws.specs.Sent.{Beginning}
use Rattle.turn_client_proto_progress_laws.specs.Asking.{APermission, AwaitsPermission, HasMadeRequest, IsMade, MayPermit}
use Rattle.turn_client_proto_progress_laws.specs.Speaking.{AreHeldBeyond, HasAtMost, IsOwn, Speaks}
use Rattle.turn_client_proto_progress_laws.proofs.Asking.Lists.{first_not, second_not, found_last, none_of_any, one_changed, one_found, only_one}
use Rattle.turn_client_proto_progress_laws.proofs.Asking.Moving.{speaks_on}

-- ---- tools

first_so : (x y : Bool) → (x && y) ≡ true → x ≡ true
first_so true y is = refl
first_so false y is = absurd (Prim.cc is)

second_so : (x y : Bool) → (x && y) ≡ true → y ≡ true
second_so true y is = is
second_so false y is = absurd (Prim.cc is)

both_so : (x y : Bool) → x ≡ true → y ≡ true → (x && y) ≡ true
both_so true y one other = other
both_so false y one other = absurd (Prim.cc one)

pub same_transport : (x y : TransportType) → is_same_transport x y ≡ true → x ≡ y
same_transport Udp Udp is = refl
same_transport Tcp Tcp is = refl
same_transport Udp Tcp is = absurd (Prim.cc is)
same_transport Tcp Udp is = absurd (Prim.cc is)

pub itself_transport : (x : TransportType) → is_same_transport x x ≡ true
itself_transport Udp = refl
itself_transport Tcp = refl

pub same_family : (x y : AddressFamily) → is_same_family x y ≡ true → x ≡ y
same_family IPV4 IPV4 is = refl
same_family IPV6 IPV6 is = refl
same_family IPV4 IPV6 is = absurd (Prim.cc is)
same_family IPV6 IPV4 is = absurd (Prim.cc is)

pub itself_family : (x : AddressFamily) → is_same_family x x ≡ true
itself_family IPV4 = refl
itself_family IPV6 = refl

pub continues : (f : Phase) → is_authenticated f ≡ true → f ≡ Authenticated
continues Initial is = absurd (Prim.cc is)
continues (InitialSent numbers) is = absurd (Prim.cc is)
continues (Authenticating numbers) is = absurd (Prim.cc is)
continues Authenticated is = refl
continues Ended is = absurd (Prim.cc is)

-- ---- the allocation

-- The allocation has this transport and the family of this address.
pub of_both : (b : Beginning) (address : SocketAddr) (transport : TransportType) (family : AddressFamily) (a : Allocation) → IsOwn b address a → transport ≡ b.config.transport → family_of_socket address ≡ family → is_of transport family a ≡ true
of_both b address transport family a own same kin =
    both_so (is_same_transport a.transport transport) (is_same_family (family_of_socket a.address) family)
    (ap (λ (t : TransportType). is_same_transport t transport) (own.transport ∙ sym same) ∙ itself_transport transport)
    (ap (λ (x : SocketAddr). is_same_family (family_of_socket x) family) own.address_is ∙ ap (λ (f : AddressFamily). is_same_family f family) kin ∙ itself_family family)

-- The converse.
pub record IsOfBoth (b : Beginning) (address : SocketAddr) (transport : TransportType) (family : AddressFamily) : Type 0 where
  pub same : transport ≡ b.config.transport
  pub kin : family_of_socket address ≡ family

pub both_of : (b : Beginning) (address : SocketAddr) (transport : TransportType) (family : AddressFamily) (a : Allocation) → IsOwn b address a → is_of transport family a ≡ true → IsOfBoth b address transport family
both_of b address transport family a own is = record {
  same = sym (same_transport a.transport transport (first_so (is_same_transport a.transport transport) _ is)) ∙ own.transport;
  kin = ap family_of_socket (sym own.address_is) ∙ same_family (family_of_socket a.address) family (second_so (is_same_transport a.transport transport) _ is);
}

-- An expiry that has not passed is later than now.
pub later_than : (at : ℕ) (a : Allocation) → is_past at a ≡ false → at < a.expiry
later_than at a is = leb-false a.expiry at is

-- ---- when a permission is requested

-- The result if a permission is requested.
abbrev pub ok : Result (Unit {0}) CreatePermissionError
ok = Ok tt

module _ (b : Beginning) (realm : List ℕ) (address : SocketAddr) (p : Protocol) (speaks : Speaks b realm address p) (transport : TransportType) (ip : IpAddr) (at : ℕ) where
  -- Why the call is refused, by the allocations.
  abbrev why_not : List Allocation → Option CreatePermissionError
  why_not allocations = refusal_in (find (is_of transport (family_of_ip ip)) allocations) p.phase ip at

  wanted_in : (a : Allocation) → IsOwn b address a → p.allocations ≡ a ∷ [] → why_not (a ∷ []) ≡ None → MayPermit b address transport ip at p
  wanted_in a own only none = elim (cases_Bool (is_of transport (family_of_ip ip) a)) [
    | inr other ↦ (
        let here : why_not (a ∷ []) ≡ Some not_permitted.NoAllocation = rw other refl in
        absurd (Prim.cc (sym here ∙ none)))
    | inl passes ↦ (
        let here : refusal_in (Some a) p.phase ip at ≡ None = ap (λ (o : Option Allocation). refusal_in o p.phase ip at) (sym (one_found (is_of transport (family_of_ip ip)) a passes)) ∙ none in
        elim (cases_Bool (is_past at a)) [
          | inl past ↦ absurd (Prim.cc (rw past at here))
          | inr not_past ↦ (
              let next : (if knows ip a then Some not_permitted.AlreadyExists else (if is_authenticated p.phase then None else Some not_permitted.NoAllocation)) ≡ None = rw not_past at here in
              elim (cases_Bool (knows ip a)) [
                | inl known ↦ absurd (Prim.cc (rw known at next))
                | inr unknown ↦ (
                    let last : (if is_authenticated p.phase then None else Some not_permitted.NoAllocation) ≡ None = rw unknown at next in
                    elim (cases_Bool (is_authenticated p.phase)) [
                      | inr ended ↦ absurd (Prim.cc (rw ended at last))
                      | inl on ↦ (
                          let of = both_of b address transport (family_of_ip ip) a own passes in
                          record {
                            phase = continues p.phase on;
                            allocation = a;
                            only = only;
                            same = of.same;
                            family = of.kin;
                            later = later_than at a not_past;
                            unknown = unknown;
                          })
                    ])
              ])
        ])
  ]

  wanted_of : (allocations : List Allocation) → HasAtMost b address allocations → p.allocations ≡ allocations → why_not allocations ≡ None → MayPermit b address transport ip at p
  wanted_of [] one is none = absurd (Prim.cc none)
  wanted_of (a ∷ []) one is none = wanted_in a one is none
  wanted_of (a ∷ c ∷ rest) one is none = absurd one

  pub is_wanted : permission_refusal p transport ip at ≡ None → MayPermit b address transport ip at p
  is_wanted none = wanted_of p.allocations speaks.one refl none

  pub own_of : (a : Allocation) → p.allocations ≡ a ∷ [] → IsOwn b address a
  own_of a only = subst (λ (l : List Allocation). HasAtMost b address l) only speaks.one

  found_for : (m : MayPermit b address transport ip at p) → allocation_for transport ip p ≡ Some m.allocation
  found_for m =
      ap (λ (l : List Allocation). find (is_of transport (family_of_ip ip)) l) m.only
      ∙ one_found (is_of transport (family_of_ip ip)) m.allocation (of_both b address transport (family_of_ip ip) m.allocation (own_of m.allocation m.only) m.same m.family)

  pub not_refused : MayPermit b address transport ip at p → permission_refusal p transport ip at ≡ None
  not_refused m =
      let here = ap (λ (o : Option Allocation). refusal_in o p.phase ip at) (found_for m) in
      let later = m.later in
      let past : is_past at m.allocation ≡ false = lt-leb m.allocation.expiry at (omega (arith, later)) in
      let on : is_authenticated p.phase ≡ true = ap is_authenticated m.phase in
      here ∙ rw (past, m.unknown, on) refl

  -- ---- the result

  answered_by : (ret : Result (Unit {0}) CreatePermissionError) (q : Protocol) (refusal : Option CreatePermissionError) → permission_refusal p transport ip at ≡ refusal → ret ≢ Err not_permitted.NoMemory
      → IfSome refusal (λ error. (ret ≡ Err error) × (q ≡ refused_in (allocation_for transport ip p) transport ip at p))
      → IfNone refusal (MatchResult ret (λ _. IsPermissionRequested p transport ip [] at q) (λ error. (error ≡ not_permitted.NoMemory) × (q ≡ after_number p)))
      → (ret ≡ Ok tt → MayPermit b address transport ip at p) × (MayPermit b address transport ip at p → ret ≡ Ok tt)
  answered_by ret q (Some error) why ample refused made = (λ done. absurd (Prim.cc (sym done ∙ refused.0)), λ may. absurd (Prim.cc (sym (not_refused may) ∙ why)))
  answered_by (Ok done) q None why ample refused made = (λ is. is_wanted why, λ may. refl)
  answered_by (Err error) q None why ample refused made = absurd (ample (ap Err made.0))

  pub answered : (ret : Result (Unit {0}) CreatePermissionError) (q : Protocol) → IsPermissionAnswered p transport ip at ret q → ret ≢ Err not_permitted.NoMemory
      → (ret ≡ Ok tt → MayPermit b address transport ip at p) × (MayPermit b address transport ip at p → ret ≡ Ok tt)
  answered ret q is ample = answered_by ret q (permission_refusal p transport ip at) refl ample is.refused is.requested

  -- ---- the request

  made_by : (q : Protocol) (refusal : Option CreatePermissionError) → permission_refusal p transport ip at ≡ refusal
      → IfSome refusal (λ error. (ok ≡ Err error) × (q ≡ refused_in (allocation_for transport ip p) transport ip at p))
      → IfNone refusal (MatchResult ok (λ _. IsPermissionRequested p transport ip [] at q) (λ error. (error ≡ not_permitted.NoMemory) × (q ≡ after_number p)))
      → MayPermit b address transport ip at p × IsPermissionRequested p transport ip [] at q
  made_by q (Some error) why refused made = absurd (Prim.cc refused.0)
  made_by q None why refused made = (is_wanted why, made)

  pub made : (q : Protocol) → IsPermissionAnswered p transport ip at (Ok tt) q → MayPermit b address transport ip at p × IsPermissionRequested p transport ip [] at q
  made q is = made_by q (permission_refusal p transport ip at) refl is.refused is.requested

  module _ (q : Protocol) (may : MayPermit b address transport ip at p) (is : IsPermissionRequested p transport ip [] at q) where
    abbrev number : ℕ
    number = is.number

    abbrev text : List ℕ
    text = request_text p.auth (CreatePermission (ip ∷ [])) number

    shows : number_at text ≡ number
    shows = number_law p.auth (CreatePermission (ip ∷ [])) number speaks.signs.short is.lawful (number_small p number is.is_next)

    -- ---- no other request has its number

    unawaited : is_awaited number may.allocation ≡ false
    unfolding is_taken
    unawaited =
        let later : (awaits number p.phase || is_any_awaited number p.allocations) ≡ false = second_not (is_some (finite.get p.agent.outstanding number)) _ is.is_next.free in
        let any : is_any_awaited number p.allocations ≡ false = second_not (awaits number p.phase) _ later in
        first_not (is_awaited number may.allocation) false (ap (λ (l : List Allocation). is_any_awaited number l) (sym may.only) ∙ any)

    abbrev pending : PendingPermission
    pending = record { ip = ip; others = []; numbers = number ∷ [] }

    awaits_it : AwaitsPermission (number ∷ []) number ip (asking pending may.allocation)
    unfolding is_awaited
    awaits_it =
        let a = may.allocation in
        let one = second_not (list_any (renews_permission number) a.permissions) _ unawaited in
        let two = second_not (list_any (renews_channel number) a.channels) _ one in
        let three = second_not (list_any (asks_for_permission number) a.pending_permissions) _ two in
        let four = second_not (list_any (asks_for_channel number) a.pending_channels) _ three in
        record {
          no_refresh = none_of_any (is_refresh number) a.pending_refreshes (first_not (list_any (is_refresh number) a.pending_refreshes) _ four);
          no_channel = none_of_any (asks_for_channel number) a.pending_channels (first_not (list_any (asks_for_channel number) a.pending_channels) _ three);
          no_renewal = none_of_any (renews_channel number) a.channels (first_not (list_any (renews_channel number) a.channels) _ one);
          requested = found_last (asks_for_permission number) a.pending_permissions pending
              (none_of_any (asks_for_permission number) a.pending_permissions (first_not (list_any (asks_for_permission number) a.pending_permissions) _ two))
              (ap (λ (x : Bool). x || false) (eq-eqb number number refl));
        }

    -- ---- the client then

    abbrev transaction : Transaction
    transaction = started p.agent text p.server at

    abbrev after : Protocol
    after = record (requested (after_number p) (CreatePermission (ip ∷ [])) number at) {
      allocations = change_first (is_of transport (family_of_ip ip)) (asking pending) p.allocations;
    }

    only_after : change_first (is_of transport (family_of_ip ip)) (asking pending) p.allocations ≡ asking pending may.allocation ∷ []
    only_after =
        ap (λ (l : List Allocation). change_first (is_of transport (family_of_ip ip)) (asking pending) l) may.only
        ∙ one_changed (is_of transport (family_of_ip ip)) (asking pending) may.allocation (of_both b address transport (family_of_ip ip) may.allocation (own_of may.allocation may.only) may.same may.family)

    there_after : finite.get after.agent.outstanding number ≡ Some transaction
    unfolding requested
    there_after = ap (λ (n : ℕ). finite.get (finite.insert p.agent.outstanding (number_at text) transaction) n) (sym shows) ∙ put_there p.agent.outstanding (number_at text) transaction

    is_after : after_asking transport ip [] number at p ≡ after
    unfolding after_asking
    is_after = refl

    -- The request is this one.
    pub own_request : (request : List ℕ) → IsMade p q request → request ≡ text
    unfolding requested
    own_request request m =
        let there : finite.get after.agent.outstanding m.number ≡ Some m.transaction = ap (λ (x : Protocol). finite.get x.agent.outstanding m.number) (sym (is.after ∙ is_after)) ∙ m.there in
        elim (put_or p.agent.outstanding (number_at text) transaction m.number m.transaction there) [
          | inl new ↦ sym m.bytes ∙ ap (λ (t : Transaction). t.bytes) new.1
          | inr old ↦ absurd (Prim.cc (sym m.none ∙ old.1))
        ]

    asks_after : (until beyond : ℕ) (Counts : ℕ → Type 0) → AreHeldBeyond beyond p.allocations → until < end_at at b.config.waits → Counts p.resends → HasMadeRequest b realm address (APermission ip) text until beyond Counts after
    unfolding requested
    asks_after until beyond Counts held early counts =
        let a = may.allocation in
        let holds = held a (subst (λ (l : List Allocation). IsIn a l) (sym may.only) (inl refl)) in
        let own = own_of a may.only in
        let ends : end_at at p.agent.waits ≡ end_at at b.config.waits = ap (λ w. end_at at w) speaks.settings.waits in
        record {
          speaks = speaks_on b realm address p after (record { server = refl; remote = refl; transport = refl; here = refl; waits = refl; allocates = refl; asked = refl; auth = refl; phase = refl })
              (subst (λ (l : List Allocation). HasAtMost b address l) (sym only_after) (record { transport = own.transport; address_is = own.address_is })) speaks;
          phase = may.phase;
          allocation = asking pending a;
          only = only_after;
          occurs = holds.0;
          later = holds.1;
          number = number;
          fits = number_small p number is.is_next;
          lawful = is.lawful;
          text = refl;
          numbers = number ∷ [];
          awaits = awaits_it;
          others = λ n has apart. absurd (apart (only_one n number has));
          transaction = transaction;
          outstanding = there_after;
          continues = lt-leb (end_at at p.agent.waits) until (omega (arith, ends, early));
          counts = counts;
        }

    pub asks : (until beyond : ℕ) (Counts : ℕ → Type 0) → AreHeldBeyond beyond p.allocations → until < end_at at b.config.waits → Counts p.resends → HasMadeRequest b realm address (APermission ip) text until beyond Counts q
    asks until beyond Counts held early counts = subst (λ (x : Protocol). HasMadeRequest b realm address (APermission ip) text until beyond Counts x) (sym (is.after ∙ is_after)) (asks_after until beyond Counts held early counts)

    -- Its transaction ID was free, so the request is a new one.
    free : is_some (finite.get p.agent.outstanding number) ≡ false
    unfolding is_taken
    free = first_not (is_some (finite.get p.agent.outstanding number)) _ is.is_next.free

    none_there : (o : Option Transaction) → finite.get p.agent.outstanding number ≡ o → o ≡ None
    none_there None at_it = refl
    none_there (Some t) at_it = absurd (Prim.cc (sym (ap is_some at_it) ∙ free))

    pub is_made : IsMade p q text
    is_made = record {
      number = number;
      transaction = transaction;
      there = ap (λ (x : Protocol). finite.get x.agent.outstanding number) (is.after ∙ is_after) ∙ there_after;
      none = none_there (finite.get p.agent.outstanding number) refl;
      bytes = refl;
    }
