-- A client with a pending request, if something else in it changes.
use Rattle.std.proofs.Common.{◌≡◌, ◌≢◌, ℕ, ◌<◌, ◌≤◌, arith, Bool, true, false, cond, ◌||◌, List, [], ◌∷◌, Option, Some, None, refl, sym, ap, ◌∙◌, subst, inl, inr}
use Rattle.std.specs.Prelude.{◌==◌, nat_le, is_some}
use Rattle.std.specs.FinMap as finite
use Rattle.std.specs.Cmp.{nat_cmp_total}
use Rattle.std.specs.List.{list_any}
use Rattle.std.specs.Ordering.{is_eq, nat_cmp}
use Rattle.std.proofs.lemmas.Bool.{cases_Bool, eq-eqb, eqb-true, leb-false, lt-leb}
use Rattle.std.specs.declared.net.socket_addr.SocketAddr.{SocketAddr}
use Rattle.turn_client_proto_messages.specs.StunTypesWire.Grammar.{number_at}
use Rattle.turn_client_proto_messages.specs.StunProtoTransaction.Agents.{Transaction, has_left, is_ended, is_over, transmitted}
use Rattle.turn_client_proto_messages.specs.StunProtoAgent.Sending.{started, stored_under, with_request}
use Rattle.turn_client_proto_messages.specs.StunProtoTransaction.Schedule.{end_at}
use Rattle.turn_client_proto_messages.specs.StunProtoAgent.State as agents
use Rattle.turn_client_proto_messages.proofs.StunProtoTransaction.Leasts.{same_number}
use Rattle.turn_client_proto_messages.specs.Allocation.Awaited.{asks_for_channel, asks_for_permission, has_number, is_among, is_awaited, renews_channel, renews_permission}
use Rattle.turn_client_proto_messages.specs.Allocation.Listed.{is_any_awaited}
use Rattle.turn_client_proto_messages.specs.Allocation.declared.allocation.Allocation.{Allocation}
use Rattle.turn_client_proto_messages.specs.StunProtoAgent.declared.agent.StunAgentPollRet.{StunAgentPollRet}
use Rattle.turn_client_proto_messages.specs.StunProtoAgent.declared.agent.StunAgentPollRet.TheVariants.{TransactionCancelled, TransactionTimedOut, WaitUntil}
use Rattle.turn_client_proto_handshake_laws.specs.Core.Numbering.{IsNextNumber, awaits, is_taken}
use Rattle.turn_client_proto_messages.specs.Api.declared.options.AllocateOptions.{AllocateOptions}
use Rattle.turn_client_proto_messages.specs.StunTypesBase.declared.family.AddressFamily.{AddressFamily}
use Rattle.turn_client_proto_messages.specs.Requests.{request_text}
use Rattle.turn_client_proto_messages.specs.ReportedRequests.{IsLawfulRequest}
use Rattle.turn_client_proto_messages.specs.declared.request.TurnRequest.{TurnRequest}
use Rattle.turn_client_proto_handshake_laws.specs.Core.declared.protocol.Phase.{Phase}
use Rattle.turn_client_proto_handshake_laws.specs.Core.declared.protocol.Protocol.{Protocol}
use Rattle.turn_client_proto_step_laws.specs.Timers.Polling.{ended_of, pace_of}
use Rattle.turn_client_proto_messages.proofs.Reading.{number_law}
use Rattle.turn_client_proto_step_laws.proofs.Lists.{found_in}
use Rattle.turn_client_proto_step_laws.proofs.Numbers.{number_small}
use Rattle.turn_client_proto_progress_laws.proofs.Asking.Tools.{Table, put_there, stays_there}
use Rattle.turn_client_proto_handshake_laws.specs.Stages.{IsOf}
use Rattle.turn_client_proto_handshake_laws.specs.Sent.{Beginning}
use Rattle.turn_client_proto_progress_laws.specs.Asking.{APermission, AChannel, Awaits, HasMadeRequest, HasNoneBut, NonePasses, Wanted, request_for}
use Rattle.turn_client_proto_progress_laws.specs.Speaking.{HasAtMost, HasBeenServed, IsOwn, Signs, Speaks}
use Rattle.turn_client_proto_progress_laws.proofs.Asking.Lists.{first_not, none_of_any, not_both, second_not}
use Rattle.turn_client_proto_progress_laws.proofs.Asking.Stored.{Keeps}

-- ---- what no call changes but a message that comes

-- What the client asks the server for, the least time between two messages, and whether it accepts indications.
abbrev pub asked_of : Protocol → List AddressFamily × (AllocateOptions × (ℕ × Bool))
asked_of p = (p.families, (p.options, (pace_of p, p.attempt_indications)))

pub record Same (p q : Protocol) : Type 0 where
  pub server : q.server ≡ p.server
  pub remote : q.agent.remote ≡ p.agent.remote
  pub transport : q.agent.transport ≡ p.agent.transport
  pub here : q.agent.here ≡ p.agent.here
  pub waits : q.agent.waits ≡ p.agent.waits
  pub allocates : q.allocates ≡ p.allocates
  pub asked : asked_of q ≡ asked_of p
  pub auth : q.auth ≡ p.auth
  pub phase : q.phase ≡ p.phase

pub settings_on : (b : Beginning) (p q : Protocol) → Same p q → IsOf b p → IsOf b q
settings_on b p q same of = record {
  server = same.server ∙ of.server;
  remote = same.remote ∙ of.remote;
  transport = same.transport ∙ of.transport;
  here = same.here ∙ of.here;
  waits = same.waits ∙ of.waits;
  allocates = same.allocates ∙ of.allocates;
  families = ap (λ (x : List AddressFamily × (AllocateOptions × (ℕ × Bool))). x.0) same.asked ∙ of.families;
  options = ap (λ (x : List AddressFamily × (AllocateOptions × (ℕ × Bool))). x.1.0) same.asked ∙ of.options;
  pace = ap (λ (x : List AddressFamily × (AllocateOptions × (ℕ × Bool))). x.1.1.0) same.asked ∙ of.pace;
  indications = ap (λ (x : List AddressFamily × (AllocateOptions × (ℕ × Bool))). x.1.1.1) same.asked ∙ of.indications;
  usual = of.usual;
}

pub speaks_on : (b : Beginning) (realm : List ℕ) (address : SocketAddr) (p q : Protocol) → Same p q → HasAtMost b address q.allocations → Speaks b realm address p → Speaks b realm address q
speaks_on b realm address p q same one is = record {
  settings = settings_on b p q same is.settings;
  signs = subst (λ x. Signs b realm x) (sym same.auth) is.signs;
  served = subst (λ (f : Phase). HasBeenServed f) (sym same.phase) is.served;
  one = one;
}

-- ---- transactions

-- What is found under another key than the inserted one.
pub beside_put : (m : Table) (key other : ℕ) (x : Transaction) → (other ≡ key → ⊥) → finite.get (finite.insert m key x) other ≡ finite.get m other
beside_put m key other x apart =
    finite.get-insert nat_cmp_total m key x other
    ∙ elim (is_eq (nat_cmp other key)) as (λ (z : Bool). is_eq (nat_cmp other key) ≡ z → cond z (Some x) (finite.get m other) ≡ finite.get m other) [
      | true ↦ λ same. absurd (apart (same_number other key same))
      | false ↦ λ differs. refl
    ] refl

-- What isn't found isn't found after a removal.
none_left : (m : Table) (key other : ℕ) → finite.get m other ≡ None → finite.get (finite.remove m key) other ≡ None
none_left m key other none =
    finite.get-remove nat_cmp_total m key other
    ∙ elim (is_eq (nat_cmp other key)) as (λ (z : Bool). cond z None (finite.get m other) ≡ None) [
      | true ↦ refl
      | false ↦ none
    ]

-- One more transmission of a transaction doesn't end it.
more_sent : (now : ℕ) (tcp : Bool) (t : Transaction) → is_ended now (transmitted tcp t) ≡ is_ended now t
more_sent now tcp t = elim (cases_Bool (has_left tcp t)) [
  | inl left ↦ rw left refl
  | inr none ↦ rw none refl
]

-- The transaction IDs of what an allocation awaits are among those that it lists.
unlisted : (number : ℕ) (numbers : List ℕ) (own : ℕ) (wanted : Wanted) (a : Allocation) → Awaits numbers own wanted a → NonePasses (asks_for_permission number) a.pending_permissions → NonePasses (asks_for_channel number) a.pending_channels → has_number number numbers ≡ false
unlisted number numbers own (APermission ip) a is permissions channels = permissions _ (found_in (asks_for_permission own) a.pending_permissions _ is.requested)
unlisted number numbers own (AChannel channel peer) a is permissions channels = channels _ (found_in (asks_for_channel own) a.pending_channels _ is.requested)

-- ---- a client that has requested

module _ (b : Beginning) (realm : List ℕ) (address : SocketAddr) (wanted : Wanted) (request : List ℕ) (until beyond : ℕ) (Counts : ℕ → Type 0) (p : Protocol) (h : HasMadeRequest b realm address wanted request until beyond Counts p) where
  pub own : IsOwn b address h.allocation
  own = subst (λ (l : List Allocation). HasAtMost b address l) h.only h.speaks.one

  pub requested_still : (q : Protocol) → Same p q → q.resends ≡ p.resends → (a : Allocation) → q.allocations ≡ a ∷ [] → Keeps h.numbers h.number wanted h.allocation a → HasNoneBut h.numbers h.number q → (t : Transaction) → finite.get q.agent.outstanding h.number ≡ Some t
      → is_ended until t ≡ false → HasMadeRequest b realm address wanted request until beyond Counts q
  requested_still q same counted a only keeps others t there lasting = record {
    speaks = speaks_on b realm address p q same
        (subst (λ (l : List Allocation). HasAtMost b address l) (sym only) (record { transport = keeps.transport ∙ own.transport; address_is = keeps.address ∙ own.address_is })) h.speaks;
    phase = same.phase ∙ h.phase;
    allocation = a;
    only = only;
    occurs = keeps.visible ∙ h.occurs;
    later = subst (λ (n : ℕ). beyond < n) (sym keeps.expiry) h.later;
    number = h.number;
    fits = h.fits;
    lawful = h.lawful;
    text = h.text ∙ ap (λ x. request_text x (request_for wanted) h.number) (sym same.auth);
    numbers = h.numbers;
    awaits = keeps.awaits h.awaits;
    others = others;
    transaction = t;
    outstanding = there;
    continues = lasting;
    counts = subst Counts (sym counted) h.counts;
  }

  -- ---- another request is made

  taken_number : is_some (finite.get p.agent.outstanding h.number) ≡ true
  taken_number = ap is_some h.outstanding

  pub other_number : (number : ℕ) → IsNextNumber p number → number ≡ h.number → ⊥
  unfolding is_taken
  other_number number next same =
      let free : is_some (finite.get p.agent.outstanding number) ≡ false = first_not (is_some (finite.get p.agent.outstanding number)) (awaits number p.phase || is_any_awaited number p.allocations) next.free in
      not_both (is_some (finite.get p.agent.outstanding number)) (ap (λ (n : ℕ). is_some (finite.get p.agent.outstanding n)) same ∙ taken_number) free

  pub apart_from : (number : ℕ) → IsNextNumber p number → (number == h.number) ≡ false
  apart_from number next = elim (cases_Bool (number == h.number)) [
    | inl is ↦ absurd (other_number number next (eqb-true number h.number is))
    | inr differs ↦ differs
  ]

  -- Nor is it that of an earlier request for the same.
  not_earlier : (number : ℕ) → IsNextNumber p number → has_number number h.numbers ≡ false
  unfolding is_taken is_awaited
  not_earlier number next = (
      let later : (awaits number p.phase || is_any_awaited number p.allocations) ≡ false = second_not (is_some (finite.get p.agent.outstanding number)) _ next.free in
      let any : is_any_awaited number (h.allocation ∷ []) ≡ false = ap (is_any_awaited number) (sym h.only) ∙ second_not (awaits number p.phase) _ later in
      let here : is_awaited number h.allocation ≡ false = first_not (is_awaited number h.allocation) false any in
      let one = second_not (list_any (renews_permission number) h.allocation.permissions) _ here in
      let two = second_not (list_any (renews_channel number) h.allocation.channels) _ one in
      let three = second_not (list_any (asks_for_permission number) h.allocation.pending_permissions) _ two in
      let permissions = none_of_any (asks_for_permission number) h.allocation.pending_permissions (first_not (list_any (asks_for_permission number) h.allocation.pending_permissions) _ two) in
      let channels = none_of_any (asks_for_channel number) h.allocation.pending_channels (first_not (list_any (asks_for_channel number) h.allocation.pending_channels) _ three) in
      unlisted number h.numbers h.number wanted h.allocation h.awaits permissions channels)

  pub others_made : (other : TurnRequest) (number at : ℕ) (to : SocketAddr) → IsLawfulRequest other → IsNextNumber p number → (n : ℕ) → has_number n h.numbers ≡ true → n ≢ h.number
      → finite.get (with_request p.agent (request_text p.auth other number) to at).outstanding n ≡ None
  others_made other number at to lawful next n has apart =
      let text = request_text p.auth other number in
      let shows : number_at text ≡ number = number_law p.auth other number h.speaks.signs.short lawful (number_small p number next) in
      let unlike : n ≡ number_at text → ⊥ = λ same. not_both (has_number n h.numbers) has (ap (λ (x : ℕ). has_number x h.numbers) (same ∙ shows) ∙ not_earlier number next) in
      beside_put p.agent.outstanding (number_at text) n (started p.agent text to at) unlike ∙ h.others n has apart

  pub beside_made : (other : TurnRequest) (number at : ℕ) (to : SocketAddr) → IsLawfulRequest other → IsNextNumber p number
      → finite.get (with_request p.agent (request_text p.auth other number) to at).outstanding h.number ≡ Some h.transaction
  beside_made other number at to lawful next =
      let text = request_text p.auth other number in
      let shows : number_at text ≡ number = number_law p.auth other number h.speaks.signs.short lawful (number_small p number next) in
      beside_put p.agent.outstanding (number_at text) h.number (started p.agent text to at) (λ same. other_number number next (sym shows ∙ sym same)) ∙ h.outstanding

  -- ---- a transmission more is made

  pub beside_sent : (number : ℕ) (t : Transaction) (tcp : Bool) → finite.get p.agent.outstanding number ≡ Some t
      → (u : Transaction) × (finite.get (stored_under p.agent number (transmitted tcp t)).outstanding h.number ≡ Some u) × (is_ended until u ≡ false)
  beside_sent number t tcp there = elim (cases_Bool (h.number == number)) [
    | inl is ↦ (
        let same : h.number ≡ number = eqb-true h.number number is in
        let own_one : t ≡ h.transaction = Prim.cc (sym there ∙ ap (λ (n : ℕ). finite.get p.agent.outstanding n) (sym same) ∙ h.outstanding) in
        (transmitted tcp t, ap (λ (n : ℕ). finite.get (finite.insert p.agent.outstanding number (transmitted tcp t)) n) same ∙ put_there p.agent.outstanding number (transmitted tcp t), more_sent until tcp t ∙ ap (λ (x : Transaction). is_ended until x) own_one ∙ h.continues))
    | inr differs ↦ (
      h.transaction,
      beside_put p.agent.outstanding number h.number (transmitted tcp t) (λ same. not_both (h.number == number) (eq-eqb h.number number same) differs) ∙ h.outstanding,
      h.continues,
    )
  ]

  pub others_sent : (number : ℕ) (t : Transaction) (tcp : Bool) → finite.get p.agent.outstanding number ≡ Some t → (n : ℕ) → has_number n h.numbers ≡ true → n ≢ h.number
      → finite.get (stored_under p.agent number (transmitted tcp t)).outstanding n ≡ None
  others_sent number t tcp there n has apart =
      beside_put p.agent.outstanding number n (transmitted tcp t) (λ same. Prim.cc (sym (h.others n has apart) ∙ (ap (λ (x : ℕ). finite.get p.agent.outstanding x) same ∙ there))) ∙ h.others n has apart

  -- ---- the agent is polled, not later

  pub record IsTickedOn (ticked : StunAgentPollRet) (agent : agents.Agent) : Type 0 where
    pub continues : is_among (ended_of ticked) h.numbers ≡ false
    pub others : (n : ℕ) → has_number n h.numbers ≡ true → n ≢ h.number → finite.get agent.outstanding n ≡ None
    pub there : finite.get agent.outstanding h.number ≡ Some h.transaction
    pub remote : agent.remote ≡ p.agent.remote
    pub transport : agent.transport ≡ p.agent.transport
    pub here : agent.here ≡ p.agent.here
    pub waits : agent.waits ≡ p.agent.waits

  -- The transaction has not ended.
  open_at : (at : ℕ) → at ≤ until → is_ended at h.transaction ≡ false
  open_at at early = elim (cases_Bool (is_over h.transaction.cancelled)) [
    | inl over ↦
        let here : is_ended until h.transaction ≡ true = rw over refl in
        not_both (is_ended until h.transaction) here h.continues
    | inr lasts ↦
        let ends : is_ended until h.transaction ≡ nat_le (end_at h.transaction.sent h.transaction.waits) until = rw lasts refl in
        let later = leb-false (end_at h.transaction.sent h.transaction.waits) until (sym ends ∙ h.continues) in
        let at_later = lt-leb (end_at h.transaction.sent h.transaction.waits) at (omega (arith, later, early)) in
        rw (lasts, at_later) refl
  ]

  not_it : (at number : ℕ) (t : Transaction) → at ≤ until → finite.get p.agent.outstanding number ≡ Some t → is_ended at t ≡ true → number ≡ h.number → ⊥
  not_it at number t early there ended same =
      let own_one : t ≡ h.transaction = Prim.cc (sym there ∙ ap (λ (n : ℕ). finite.get p.agent.outstanding n) same ∙ h.outstanding) in
      not_both (is_ended at t) ended (ap (λ (x : Transaction). is_ended at x) own_one ∙ open_at at early)

  ended_beside : (at number : ℕ) (over : Bool) (agent : agents.Agent) → at ≤ until → (is : agents.IsEnd p.agent at number over agent)
      → ((h.number == number) ≡ false) × (finite.get agent.outstanding h.number ≡ Some h.transaction)
  ended_beside at number over agent early is =
      let apart : number ≡ h.number → ⊥ = λ same. not_it at number is.transaction early is.least.present is.least.passes same in
      let differs : (h.number == number) ≡ false = elim (cases_Bool (h.number == number)) [
        | inl same ↦ absurd (apart (sym (eqb-true h.number number same)))
        | inr not ↦ not
      ] in
      let unlike : is_eq (nat_cmp h.number number) ≡ false = elim (cases_Bool (is_eq (nat_cmp h.number number))) [
        | inl same ↦ absurd (apart (sym (same_number h.number number same)))
        | inr not ↦ not
      ] in
      (differs, ap (λ (x : agents.Agent). finite.get x.outstanding h.number) is.gone ∙ stays_there p.agent.outstanding number h.number unlike ∙ h.outstanding)

  -- None of the requests for the same is the one that ended.
  none_ended : (at number : ℕ) (over : Bool) (agent : agents.Agent) → at ≤ until → agents.IsEnd p.agent at number over agent → has_number number h.numbers ≡ false
  none_ended at number over agent early is = elim (cases_Bool (has_number number h.numbers)) [
    | inl has ↦ absurd (Prim.cc (sym (h.others number has (λ same. not_it at number is.transaction early is.least.present is.least.passes same)) ∙ is.least.present))
    | inr none ↦ none
  ]

  ended_on : (at number : ℕ) (over : Bool) (agent : agents.Agent) (ticked : StunAgentPollRet) → ended_of ticked ≡ Some number → at ≤ until → agents.IsEnd p.agent at number over agent → IsTickedOn ticked agent
  ended_on at number over agent ticked which early is =
      let left = ended_beside at number over agent early is in
      record {
        continues = ap (λ (o : Option ℕ). is_among o h.numbers) which ∙ none_ended at number over agent early is;
        others = λ n has apart. ap (λ (x : agents.Agent). finite.get x.outstanding n) is.gone ∙ none_left p.agent.outstanding number n (h.others n has apart);
        there = left.1;
        remote = ap (λ (x : agents.Agent). x.remote) is.gone;
        transport = ap (λ (x : agents.Agent). x.transport) is.gone;
        here = ap (λ (x : agents.Agent). x.here) is.gone;
        waits = ap (λ (x : agents.Agent). x.waits) is.gone;
      }

  pub ticked_on : (at : ℕ) (ticked : StunAgentPollRet) (agent : agents.Agent) → at ≤ until → agents.IsPolled p.agent at ticked agent → IsTickedOn ticked agent
  ticked_on at (TransactionTimedOut number) agent early is = ended_on at number false agent (TransactionTimedOut number) refl early is
  ticked_on at (TransactionCancelled number) agent early is = ended_on at number true agent (TransactionCancelled number) refl early is
  ticked_on at (WaitUntil until) agent early is = record {
    continues = refl;
    others = λ n has apart. ap (λ (x : agents.Agent). finite.get x.outstanding n) is.2 ∙ h.others n has apart;
    there = ap (λ (x : agents.Agent). finite.get x.outstanding h.number) is.2 ∙ h.outstanding;
    remote = ap (λ (x : agents.Agent). x.remote) is.2;
    transport = ap (λ (x : agents.Agent). x.transport) is.2;
    here = ap (λ (x : agents.Agent). x.here) is.2;
    waits = ap (λ (x : agents.Agent). x.waits) is.2;
  }
