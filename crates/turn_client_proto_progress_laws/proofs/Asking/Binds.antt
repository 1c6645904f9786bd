-- When a client may request a channel, and what becomes of it then.
use Rattle.std.proofs.Common.{◌≡◌, ◌≢◌, ℕ, ◌<◌, arith, Bool, true, false, ◌||◌, List, [], ◌∷◌, Option, Some, None, refl, sym, ap, ◌∙◌, subst, inl, inr}
use Rattle.std.specs.Prelude.{if◌then◌else◌, MatchOption, MatchResult, IfNone, IfSome, Result, Ok, Err, find, is_some}
use Rattle.std.specs.FinMap as finite
use Rattle.std.specs.List.{list_any}
use Rattle.std.specs.Net.Socket.{socket_ip}
use Rattle.std.specs.Option.{option_or}
use Rattle.std.specs.declared.net.ip_addr.IpAddr.{IpAddr}
use Rattle.std.specs.declared.net.socket_addr.SocketAddr.{SocketAddr}
use Rattle.std.proofs.lemmas.Bool.{cases_Bool, eq-eqb, lt-leb}
use Rattle.turn_client_proto_messages.specs.StunTypesBase.Family.{family_of_socket}
use Rattle.turn_client_proto_messages.specs.StunTypesWire.Grammar.{number_at}
use Rattle.turn_client_proto_messages.specs.StunTypesBase.declared.transport.TransportType.{TransportType}
use Rattle.turn_client_proto_messages.specs.StunProtoTransaction.Agents.{Transaction}
use Rattle.turn_client_proto_messages.specs.StunProtoTransaction.Schedule.{end_at}
use Rattle.turn_client_proto_messages.specs.StunProtoAgent.Sending.{started}
use Rattle.turn_client_proto_messages.specs.Allocation.Awaited.{asks_for_channel, asks_for_permission, is_awaited, is_refresh, renews_channel, renews_permission}
use Rattle.turn_client_proto_messages.specs.Allocation.Changes.{change_first}
use Rattle.turn_client_proto_messages.specs.Allocation.Listed.{is_any_awaited}
use Rattle.turn_client_proto_messages.specs.Allocation.declared.allocation.Allocation.{Allocation}
use Rattle.turn_client_proto_messages.specs.Allocation.declared.channel.PendingChannel.{PendingChannel}
use Rattle.turn_client_proto_messages.specs.Api.declared.error.BindChannelError.{BindChannelError}
use Rattle.turn_client_proto_messages.specs.Api.declared.error.BindChannelError.TheVariants as not_bound
use Rattle.turn_client_proto_step_laws.specs.Peers.Channel.Binding.{asking, barring}
use Rattle.turn_client_proto_step_laws.specs.Peers.Channel.Numbers.{IsLeastFree, is_numbered, is_taken, is_taken_in}
use Rattle.turn_client_proto_handshake_laws.specs.Core.Asking.{requested}
use Rattle.turn_client_proto_handshake_laws.specs.Core.Binding.{IsBindAnswered, IsBindTried, IsChannelRequested, after_binding, allocation_to, asking_channel, bind_refusal, bind_refusal_in, bind_refused_in, permission_beside}
use Rattle.turn_client_proto_handshake_laws.specs.Core.Deleting.{is_authenticated}
use Rattle.turn_client_proto_handshake_laws.specs.Core.Numbering.{after_number, awaits, is_taken as is_taken_number}
use Rattle.turn_client_proto_messages.specs.Requests.{request_text}
use Rattle.turn_client_proto_messages.specs.declared.request.TurnRequest.TheVariants.{ChannelBind}
use Rattle.turn_client_proto_handshake_laws.specs.Core.declared.protocol.Protocol.{Protocol}
use Rattle.turn_client_proto_messages.specs.TurnRuns.Members.{IsIn}
use Rattle.turn_client_proto_step_laws.specs.Peers.Permission.Asking.{is_of, is_past, knows}
use Rattle.turn_client_proto_messages.proofs.Reading.{number_law}
use Rattle.turn_client_proto_step_laws.proofs.Numbers.{number_small}
use Rattle.turn_client_proto_progress_laws.proofs.Asking.Tools.{put_or, put_there}
use Rattle.turn_client_proto_handshake_laws.specs.Sent.{Beginning}
use Rattle.turn_client_proto_progress_laws.specs.Asking.{AChannel, AwaitsChannel, HasMadeRequest, IsMade, MayBind}
use Rattle.turn_client_proto_progress_laws.specs.Speaking.{AreHeldBeyond, HasAtMost, IsOwn, Speaks}
use Rattle.turn_client_proto_progress_laws.proofs.Asking.Asks.{both_of, continues, later_than, of_both}
use Rattle.turn_client_proto_progress_laws.proofs.Asking.Lists.{first_not, second_not, found_last, none_of_any, one_changed, one_found, only_one}
use Rattle.turn_client_proto_progress_laws.proofs.Asking.Moving.{speaks_on}

-- The first of two causes does not apply.
first_none : (one other : Option BindChannelError) → option_or one other ≡ None → one ≡ None
first_none None other is = refl
first_none (Some error) other is = absurd (Prim.cc is)

-- The result if a channel is requested.
abbrev pub ok : Result (Unit {0}) BindChannelError
ok = Ok tt

module _ (b : Beginning) (realm : List ℕ) (address : SocketAddr) (p : Protocol) (speaks : Speaks b realm address p) (transport : TransportType) (peer : SocketAddr) (at : ℕ) where
  -- ---- why not

  abbrev why_not : List Allocation → Option BindChannelError
  why_not allocations = bind_refusal_in (find (is_of transport (family_of_socket peer)) allocations) p.phase peer at

  -- All conditions of `MayBind` except that a channel number is free.
  pub record MayBindBut : Type 0 where
    pub allocation : Allocation
    pub only : p.allocations ≡ allocation ∷ []
    pub on : is_authenticated p.phase ≡ true
    pub same : transport ≡ b.config.transport
    pub family : family_of_socket address ≡ family_of_socket peer
    pub later : at < allocation.expiry
    pub unbarred : barring peer at allocation ≡ None

  wanted_in : (a : Allocation) → IsOwn b address a → p.allocations ≡ a ∷ [] → why_not (a ∷ []) ≡ None → MayBindBut
  wanted_in a own only none = elim (cases_Bool (is_of transport (family_of_socket peer) a)) [
    | inr other ↦ (
        let here : why_not (a ∷ []) ≡ Some not_bound.NoAllocation = rw other refl in
        absurd (Prim.cc (sym here ∙ none)))
    | inl passes ↦ (
        let here : bind_refusal_in (Some a) p.phase peer at ≡ None = ap (λ (o : Option Allocation). bind_refusal_in o p.phase peer at) (sym (one_found (is_of transport (family_of_socket peer)) a passes)) ∙ none in
        elim (cases_Bool (is_past at a)) [
          | inl past ↦ absurd (Prim.cc (rw past at here))
          | inr not_past ↦ (
              let next : option_or (barring peer at a) (if is_authenticated p.phase then None else Some not_bound.NoAllocation) ≡ None = rw not_past at here in
              let unbarred : barring peer at a ≡ None = first_none (barring peer at a) _ next in
              let last : (if is_authenticated p.phase then None else Some not_bound.NoAllocation) ≡ None = rw unbarred at next in
              elim (cases_Bool (is_authenticated p.phase)) [
                | inr ended ↦ absurd (Prim.cc (rw ended at last))
                | inl on ↦ (
                    let of = both_of b address transport (family_of_socket peer) a own passes in
                    record { allocation = a; only = only; on = on; same = of.same; family = of.kin; later = later_than at a not_past; unbarred = unbarred })
              ])
        ])
  ]

  wanted_of : (allocations : List Allocation) → HasAtMost b address allocations → p.allocations ≡ allocations → why_not allocations ≡ None → MayBindBut
  wanted_of [] one is none = absurd (Prim.cc none)
  wanted_of (a ∷ []) one is none = wanted_in a one is none
  wanted_of (a ∷ c ∷ rest) one is none = absurd one

  is_wanted : bind_refusal p transport peer at ≡ None → MayBindBut
  is_wanted none = wanted_of p.allocations speaks.one refl none

  own_of : (a : Allocation) → p.allocations ≡ a ∷ [] → IsOwn b address a
  own_of a only = subst (λ (l : List Allocation). HasAtMost b address l) only speaks.one

  not_refused : MayBind b address transport peer at p → bind_refusal p transport peer at ≡ None
  not_refused m =
      let found : allocation_to transport peer p ≡ Some m.allocation = ap (λ (l : List Allocation). find (is_of transport (family_of_socket peer)) l) m.only
      ∙ one_found (is_of transport (family_of_socket peer)) m.allocation (of_both b address transport (family_of_socket peer) m.allocation (own_of m.allocation m.only) m.same m.family) in
      let here = ap (λ (o : Option Allocation). bind_refusal_in o p.phase peer at) found in
      let later = m.later in
      let past : is_past at m.allocation ≡ false = lt-leb m.allocation.expiry at (omega (arith, later)) in
      let on : is_authenticated p.phase ≡ true = ap is_authenticated m.phase in
      here ∙ rw (past, m.unbarred, on) refl

  -- ---- the number

  with_number : (m : MayBindBut) (channel : ℕ) → IsLeastFree p.allocations at (Some channel) → MayBind b address transport peer at p
  with_number m channel least = record {
    phase = continues p.phase m.on;
    allocation = m.allocation;
    only = m.only;
    same = m.same;
    family = m.family;
    later = m.later;
    unbarred = m.unbarred;
    channel = channel;
    free = record { least = least.0; most = least.1; untaken = least.2 };
  }

  never_full : {A : Type 0} → MayBind b address transport peer at p → IsLeastFree p.allocations at None → A
  never_full m full = absurd (Prim.cc (sym (full m.channel m.free.least m.free.most) ∙ m.free.untaken))

  -- ---- the result

  abbrev Both : Result (Unit {0}) BindChannelError → Type 0
  Both ret = (ret ≡ Ok tt → MayBind b address transport peer at p) × (MayBind b address transport peer at p → ret ≡ Ok tt)

  tried_by : (ret : Result (Unit {0}) BindChannelError) (q : Protocol) (free : Option ℕ) → MayBindBut → IsLeastFree p.allocations at free → ret ≢ Err not_bound.NoMemory
      → MatchOption free ((ret ≡ Err not_bound.NoChannel) × (q ≡ p)) (λ channel. MatchResult ret (λ _. IsChannelRequested p transport peer channel at q) (λ error. (error ≡ not_bound.NoMemory) × (q ≡ after_number p))) → Both ret
  tried_by ret q None m least ample is = (λ done. absurd (Prim.cc (sym done ∙ is.0)), λ may. never_full may least)
  tried_by (Ok done) q (Some channel) m least ample is = (λ _. with_number m channel least, λ may. refl)
  tried_by (Err error) q (Some channel) m least ample is = absurd (ample (ap Err is.0))

  answered_by : (ret : Result (Unit {0}) BindChannelError) (q : Protocol) (refusal : Option BindChannelError) → bind_refusal p transport peer at ≡ refusal → ret ≢ Err not_bound.NoMemory
      → IfSome refusal (λ error. (ret ≡ Err error) × (q ≡ bind_refused_in (allocation_to transport peer p) transport peer at p)) → IfNone refusal (IsBindTried p transport peer at ret q) → Both ret
  answered_by ret q (Some error) why ample refused tried = (λ done. absurd (Prim.cc (sym done ∙ refused.0)), λ may. absurd (Prim.cc (sym (not_refused may) ∙ why)))
  answered_by ret q None why ample refused tried = tried_by ret q tried.free (is_wanted why) tried.least ample tried.outcome

  pub bind_answered : (ret : Result (Unit {0}) BindChannelError) (q : Protocol) → IsBindAnswered p transport peer at ret q → ret ≢ Err not_bound.NoMemory → Both ret
  bind_answered ret q is ample = answered_by ret q (bind_refusal p transport peer at) refl ample is.refused is.tried

  -- ---- the request

  pub record IsBound (q : Protocol) : Type 0 where
    pub may : MayBindBut
    pub channel : ℕ
    pub least : IsLeastFree p.allocations at (Some channel)
    pub is : IsChannelRequested p transport peer channel at q

  bound_by : (q : Protocol) (free : Option ℕ) → MayBindBut → IsLeastFree p.allocations at free
      → MatchOption free ((ok ≡ Err not_bound.NoChannel) × (q ≡ p)) (λ channel. MatchResult ok (λ _. IsChannelRequested p transport peer channel at q) (λ error. (error ≡ not_bound.NoMemory) × (q ≡ after_number p))) → IsBound q
  bound_by q None m least is = absurd (Prim.cc is.0)
  bound_by q (Some channel) m least is = record { may = m; channel = channel; least = least; is = is }

  made_by : (q : Protocol) (refusal : Option BindChannelError) → bind_refusal p transport peer at ≡ refusal
      → IfSome refusal (λ error. (ok ≡ Err error) × (q ≡ bind_refused_in (allocation_to transport peer p) transport peer at p)) → IfNone refusal (IsBindTried p transport peer at ok q) → IsBound q
  made_by q (Some error) why refused tried = absurd (Prim.cc refused.0)
  made_by q None why refused tried = bound_by q tried.free (is_wanted why) tried.least tried.outcome

  pub bound : (q : Protocol) → IsBindAnswered p transport peer at (Ok tt) q → IsBound q
  bound q is = made_by q (bind_refusal p transport peer at) refl is.refused is.tried

  module _ (q : Protocol) (is_bound : IsBound q) where
    abbrev a : Allocation
    a = is_bound.may.allocation

    abbrev channel : ℕ
    channel = is_bound.channel

    abbrev number : ℕ
    number = is_bound.is.number

    abbrev text : List ℕ
    text = request_text p.auth (ChannelBind channel peer) number

    shows : number_at text ≡ number
    shows = number_law p.auth (ChannelBind channel peer) number speaks.signs.short is_bound.is.lawful (number_small p number is_bound.is.is_next)

    -- ---- no other request has its number, and no other channel that of the channel

    unawaited : is_awaited number a ≡ false
    unfolding is_taken_number
    unawaited =
        let later : (awaits number p.phase || is_any_awaited number p.allocations) ≡ false = second_not (is_some (finite.get p.agent.outstanding number)) _ is_bound.is.is_next.free in
        let any : is_any_awaited number p.allocations ≡ false = second_not (awaits number p.phase) _ later in
        first_not (is_awaited number a) false (ap (λ (l : List Allocation). is_any_awaited number l) (sym is_bound.may.only) ∙ any)

    untaken : list_any (is_numbered channel) a.channels ≡ false
    unfolding is_taken_in
    untaken =
        let here : is_taken channel at (a ∷ []) ≡ false = ap (λ (l : List Allocation). is_taken channel at l) (sym is_bound.may.only) ∙ is_bound.least.2 in
        first_not (list_any (is_numbered channel) a.channels) _ (first_not (is_taken_in channel at a) false here)

    abbrev pending : PendingChannel
    pending = record { channel = channel; peer = peer; numbers = number ∷ [] }

    -- The permission that is requested with the channel makes no difference.
    beside : (ip : IpAddr) (x : Allocation) → AwaitsChannel (number ∷ []) number channel peer x → AwaitsChannel (number ∷ []) number channel peer (permission_beside ip number x)
    unfolding permission_beside
    beside ip x is = elim (cases_Bool (knows ip x)) [
      | inl known ↦ rw known is
      | inr new ↦ rw new (record { no_refresh = is.no_refresh; requested = is.requested; free = is.free })
    ]

    awaits_alone : AwaitsChannel (number ∷ []) number channel peer (asking pending a)
    unfolding is_awaited
    awaits_alone =
        let one = second_not (list_any (renews_permission number) a.permissions) _ unawaited in
        let two = second_not (list_any (renews_channel number) a.channels) _ one in
        let three = second_not (list_any (asks_for_permission number) a.pending_permissions) _ two in
        let four = second_not (list_any (asks_for_channel number) a.pending_channels) _ three in
        record {
          no_refresh = none_of_any (is_refresh number) a.pending_refreshes (first_not (list_any (is_refresh number) a.pending_refreshes) _ four);
          requested = found_last (asks_for_channel number) a.pending_channels pending
              (none_of_any (asks_for_channel number) a.pending_channels (first_not (list_any (asks_for_channel number) a.pending_channels) _ three))
              (ap (λ (x : Bool). x || false) (eq-eqb number number refl));
          free = none_of_any (is_numbered channel) a.channels untaken;
        }

    -- ---- the client then

    abbrev transaction : Transaction
    transaction = started p.agent text p.server at

    abbrev changed : Allocation
    changed = asking_channel channel peer number a

    abbrev after : Protocol
    after = record (requested (after_number p) (ChannelBind channel peer) number at) {
      allocations = change_first (is_of transport (family_of_socket peer)) (asking_channel channel peer number) p.allocations;
    }

    only_after : change_first (is_of transport (family_of_socket peer)) (asking_channel channel peer number) p.allocations ≡ changed ∷ []
    only_after =
        ap (λ (l : List Allocation). change_first (is_of transport (family_of_socket peer)) (asking_channel channel peer number) l) is_bound.may.only
        ∙ one_changed (is_of transport (family_of_socket peer)) (asking_channel channel peer number) a (of_both b address transport (family_of_socket peer) a (own_of a is_bound.may.only) is_bound.may.same is_bound.may.family)

    there_after : finite.get after.agent.outstanding number ≡ Some transaction
    unfolding requested
    there_after = ap (λ (n : ℕ). finite.get (finite.insert p.agent.outstanding (number_at text) transaction) n) (sym shows) ∙ put_there p.agent.outstanding (number_at text) transaction

    is_after : after_binding transport peer channel number at p ≡ after
    unfolding after_binding
    is_after = refl

    -- The request is this one.
    pub own_request : (request : List ℕ) → IsMade p q request → request ≡ text
    unfolding requested
    own_request request m =
        let there : finite.get after.agent.outstanding m.number ≡ Some m.transaction = ap (λ (x : Protocol). finite.get x.agent.outstanding m.number) (sym (is_bound.is.after ∙ is_after)) ∙ m.there in
        elim (put_or p.agent.outstanding (number_at text) transaction m.number m.transaction there) [
          | inl new ↦ sym m.bytes ∙ ap (λ (t : Transaction). t.bytes) new.1
          | inr old ↦ absurd (Prim.cc (sym m.none ∙ old.1))
        ]

    -- The allocation is the one that it was.
    record IsSame (x : Allocation) : Type 0 where
      transport_is : x.transport ≡ a.transport
      address_is : x.address ≡ a.address
      expiry_is : x.expiry ≡ a.expiry
      visible_is : x.is_expired ≡ a.is_expired

    same_beside : (ip : IpAddr) (x : Allocation) → IsSame x → IsSame (permission_beside ip number x)
    unfolding permission_beside
    same_beside ip x is = elim (cases_Bool (knows ip x)) [
      | inl known ↦ rw known is
      | inr new ↦ rw new (record { transport_is = is.transport_is; address_is = is.address_is; expiry_is = is.expiry_is; visible_is = is.visible_is })
    ]

    same_changed : IsSame changed
    same_changed = same_beside (socket_ip peer) (asking pending a) (record { transport_is = refl; address_is = refl; expiry_is = refl; visible_is = refl })

    binds_after : (until beyond : ℕ) (Counts : ℕ → Type 0) → AreHeldBeyond beyond p.allocations → until < end_at at b.config.waits → Counts p.resends → HasMadeRequest b realm address (AChannel channel peer) text until beyond Counts after
    unfolding requested
    binds_after until beyond Counts held early counts =
        let holds = held a (subst (λ (l : List Allocation). IsIn a l) (sym is_bound.may.only) (inl refl)) in
        let own = own_of a is_bound.may.only in
        let same = same_changed in
        let ends : end_at at p.agent.waits ≡ end_at at b.config.waits = ap (λ w. end_at at w) speaks.settings.waits in
        record {
          speaks = speaks_on b realm address p after (record { server = refl; remote = refl; transport = refl; here = refl; waits = refl; allocates = refl; asked = refl; auth = refl; phase = refl })
              (subst (λ (l : List Allocation). HasAtMost b address l) (sym only_after) (record { transport = same.transport_is ∙ own.transport; address_is = same.address_is ∙ own.address_is })) speaks;
          phase = continues p.phase is_bound.may.on;
          allocation = changed;
          only = only_after;
          occurs = same.visible_is ∙ holds.0;
          later = subst (λ (n : ℕ). beyond < n) (sym same.expiry_is) holds.1;
          number = number;
          fits = number_small p number is_bound.is.is_next;
          lawful = is_bound.is.lawful;
          text = refl;
          numbers = number ∷ [];
          awaits = beside (socket_ip peer) (asking pending a) awaits_alone;
          others = λ n has apart. absurd (apart (only_one n number has));
          transaction = transaction;
          outstanding = there_after;
          continues = lt-leb (end_at at p.agent.waits) until (omega (arith, ends, early));
          counts = counts;
        }

    pub binds : (until beyond : ℕ) (Counts : ℕ → Type 0) → AreHeldBeyond beyond p.allocations → until < end_at at b.config.waits → Counts p.resends → HasMadeRequest b realm address (AChannel channel peer) text until beyond Counts q
    binds until beyond Counts held early counts = subst (λ (x : Protocol). HasMadeRequest b realm address (AChannel channel peer) text until beyond Counts x) (sym (is_bound.is.after ∙ is_after)) (binds_after until beyond Counts held early counts)

    -- Its transaction ID was free, so the request is a new one.
    free : is_some (finite.get p.agent.outstanding number) ≡ false
    unfolding is_taken_number
    free = first_not (is_some (finite.get p.agent.outstanding number)) _ is_bound.is.is_next.free

    none_there : (o : Option Transaction) → finite.get p.agent.outstanding number ≡ o → o ≡ None
    none_there None at_it = refl
    none_there (Some t) at_it = absurd (Prim.cc (sym (ap is_some at_it) ∙ free))

    pub bind_made : IsMade p q text
    bind_made = record {
      number = number;
      transaction = transaction;
      there = ap (λ (x : Protocol). finite.get x.agent.outstanding number) (is_bound.is.after ∙ is_after) ∙ there_after;
      none = none_there (finite.get p.agent.outstanding number) refl;
      bytes = refl;
    }
