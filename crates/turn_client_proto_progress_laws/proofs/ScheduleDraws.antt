-- What a draw does to an outstanding request, by the contract of `poll_transmit` alone.
use Rattle.std.proofs.Common.{◌≡◌, ◌≢◌, ℕ, ◌+◌, ◌<◌, ◌≤◌, ◌^◌, arith, Bool, true, false, cond, List, [], ◌∷◌, ◌++◌, Option, Some, None, refl, sym, ap, ◌∙◌, subst, ◌⊎◌, inl, inr}
use Rattle.std.specs.Prelude.{nat_le, nat_lt, ◌&&◌, ◌||◌, find, is_some, length, MatchOption, if◌then◌else◌}
use Rattle.std.specs.Bool.{MatchBool}
use Rattle.std.specs.Cmp.{eq_by_cmp_equiv, nat_cmp_total}
use Rattle.std.specs.FinMap as map
use Rattle.std.specs.Ordering.{is_eq, nat_cmp}
use Rattle.std.specs.declared.net.ip_addr.IpAddr.{IpAddr}
use Rattle.std.specs.declared.net.socket_addr.SocketAddr.{SocketAddr}
use Rattle.std.proofs.lemmas.Bool.{cases_Bool, leb-false, leb-true, lt-ltb, ltb-false, ltb-true}
use Rattle.turn_client_proto_messages.specs.Api.Sent.{Sent}
use Rattle.turn_client_proto_messages.specs.StunProtoAgent.Numbers.{ShowsNumbers}
use Rattle.turn_client_proto_messages.specs.StunProtoAgent.Sending.{is_due_of, started, stored_under, with_request}
use Rattle.turn_client_proto_messages.specs.StunProtoAgent.State as agents
use Rattle.turn_client_proto_messages.specs.StunProtoTransaction.Agents.{Transaction, has_left, is_due, transmitted}
use Rattle.turn_client_proto_messages.proofs.StunProtoTransaction.Leasts.{same_number}
use Rattle.turn_client_proto_messages.specs.StunTypesWire.Grammar.{number_at}
use Rattle.turn_client_proto_core.specs.Numbering.{IsNextNumber, after_number, awaits, following, is_taken}
use Rattle.turn_client_proto_core.specs.declared.protocol.Phase.{Phase}
use Rattle.turn_client_proto_core.specs.declared.protocol.Phase.TheVariants.{Initial, InitialSent, Authenticating, Authenticated, Ended}
use Rattle.turn_client_proto_core.specs.declared.protocol.Protocol.{Protocol}
use Rattle.turn_client_proto_handshake_laws.proofs.Only.{Table, clash, put_or, put_there}
use Rattle.turn_client_proto_messages.specs.Allocation.Listed.{is_any_awaited}
use Rattle.turn_client_proto_messages.specs.ReportedRequests.{IsLawfulRequest}
use Rattle.turn_client_proto_messages.specs.Requests.{request_text}
use Rattle.turn_client_proto_messages.specs.ShortTexts.{HasShortTexts}
use Rattle.turn_client_proto_messages.specs.StunProtoClient.Client as auth
use Rattle.turn_client_proto_messages.specs.TurnRuns.Members.{IsIn}
use Rattle.turn_client_proto_messages.specs.Waiting.{Queued, is_answer}
use Rattle.turn_client_proto_messages.specs.declared.request.TurnRequest.{TurnRequest}
use Rattle.turn_client_proto_messages.specs.declared.request.TurnRequest.TheVariants.{ChannelBind, CreatePermission, FirstAllocate, Refresh as RefreshRequest}
use Rattle.turn_client_proto_step_laws.proofs.Lists.{found_in, in_others}
use Rattle.turn_client_proto_step_laws.specs.Timers.Answering.{without_answer}
use Rattle.turn_client_proto_step_laws.specs.Timers.Drawing.{Again, Fresh, IsAnswerSent, IsChannelRenewalSent, IsFirstSent, IsFreshSent, IsMade, IsNextSent, IsQueuedSent, IsRefreshSent, IsRenewalSent, IsRenewed, IsRepeated, IsStarted, IsStill, IsTransmitted, Sends, after_sending, first_allocated, first_bound, first_permitted, first_refreshed, is_resting, sent_at_once}
use Rattle.turn_client_proto_step_laws.specs.Timers.Polling.{pace_of}
use Rattle.turn_client_proto_step_laws.specs.Timers.Wanting.{wanted}
use Rattle.turn_client_proto_step_laws.specs.Timers.declared.wanting.Want.{Want}
use Rattle.turn_client_proto_step_laws.specs.Timers.declared.wanting.Want.TheVariants.{Refresh, Channel, Permission}
use Rattle.turn_client_proto_progress_laws.specs.Schedules.{Again as OwnAgain, IsDrawOf, IsDue, IsInOrder, IsNoneDue, IsOther, IsOutstanding, Other, Request, Still, count_of, sent_of, slot_of, transaction_of}

-- ---- tools

both_true : (x y : Bool) → (x && y) ≡ true → (x ≡ true) × (y ≡ true)
both_true true y is = (refl, is)
both_true false y is = absurd (Prim.cc is)

second_false : (x y : Bool) → (x && y) ≡ false → x ≡ true → y ≡ false
second_false true y is so = is
second_false false y is so = absurd (Prim.cc so)

first_false : (x y : Bool) → (x || y) ≡ false → x ≡ false
first_false true y is = absurd (Prim.cc is)
first_false false y is = refl

pub less_of : (m n : ℕ) → m ≤ n → (m ≡ n → ⊥) → m < n
less_of m n most apart = elim (cases_Bool (nat_lt m n)) [
  | inl less ↦ ltb-true m n less
  | inr not_less ↦ (let more = ltb-false m n not_less in absurd (apart (omega (arith, most, more))))
]

pub same_key : (m n : ℕ) → m ≡ n → is_eq (nat_cmp m n) ≡ true
same_key m n same = ap (λ (k : ℕ). is_eq (nat_cmp k n)) same ∙ (eq_by_cmp_equiv nat_cmp_total).refl n

none_some : (o : Option Transaction) → is_some o ≡ false → o ≡ None
none_some None is = refl
none_some (Some t) is = absurd (Prim.cc is)

-- An entry stays if another one is put in.
pub stays_put : (m : Table) (key other : ℕ) (x : Transaction) → is_eq (nat_cmp other key) ≡ false → map.get (map.insert m key x) other ≡ map.get m other
stays_put m key other x apart = map.get-insert nat_cmp_total m key x other ∙ ap (λ (z : Bool). cond z (Some x) (map.get m other)) apart

-- ---- whether a transmission is due

module _ (r : Request) (many now : ℕ) (p : Protocol) where
  abbrev tcp : Bool
  tcp = agents.is_tcp p.agent.transport

  is_due_if : is_due_of p.agent now (transaction_of r many) ≡ true → IsDue r many now p
  is_due_if is =
      let both = both_true (nat_lt many (count_of r p)) (nat_le (slot_of r many) now) is in
      (ltb-true many (count_of r p) both.0, leb-true (slot_of r many) now both.1)

  none_due_if : is_due_of p.agent now (transaction_of r many) ≡ false → IsNoneDue r many now p
  none_due_if is left = leb-false (slot_of r many) now (second_false (nat_lt many (count_of r p)) (nat_le (slot_of r many) now) is (lt-ltb many (count_of r p) left))

  pub never_both : {A : Type 0} → IsDue r many now p → IsNoneDue r many now p → A
  never_both due none = let before = none due.0 in let reached = due.1 in absurd (omega (arith, before, reached))

  one_more : IsDue r many now p → transmitted tcp (transaction_of r many) ≡ transaction_of r (many + 1)
  one_more due = ap (λ (x : Bool). if x then transaction_of r (many + 1) else transaction_of r many) (lt-ltb many (count_of r p) due.0)

  due_of_it : IsDue r many now p → is_due_of p.agent now (transaction_of r many) ≡ true
  due_of_it due = elim (cases_Bool (is_due_of p.agent now (transaction_of r many))) [
    | inl is ↦ is
    | inr none ↦ never_both due (none_due_if none)
  ]

-- ---- a draw

-- That requests have the transaction ID under which they are written, a clause of a theorem.
abbrev pub AreNumbered : Type 0
AreNumbered = (a : auth.Client) (request : TurnRequest) (number : ℕ) → HasShortTexts a → IsLawfulRequest request → number < 2 ^ 96 → number_at (request_text a request number) ≡ number

-- The outcome of a draw, and the request and the client after it.
pub record IsDrawTo (r : Request) (many now : ℕ) (p : Protocol) (sent : Option Sent) (q : Protocol) : Type 0 where
  pub next : ℕ
  pub by_draw : IsDrawOf r many now p sent next
  pub stays_stored : IsOutstanding r next q
  pub order : IsInOrder q
  pub transport : q.agent.transport ≡ p.agent.transport
  pub here : q.agent.here ≡ p.agent.here
  pub queue : (one : Queued) → IsIn one q.queue → IsIn one p.queue

module _ (numbered : AreNumbered) (r : Request) (many now : ℕ) (p : Protocol) (there : IsOutstanding r many p) (order : IsInOrder p) where
  -- The client stays as it was.
  module _ (q : Protocol) (same : q ≡ p) (sent : Option Sent) (by_draw : IsDrawOf r many now p sent many) where
    pub as_before : IsDrawTo r many now p sent q
    as_before = record {
      next = many;
      by_draw = by_draw;
      stays_stored = subst (λ (x : Protocol). IsOutstanding r many x) (sym same) there;
      order = subst (λ (x : Protocol). IsInOrder x) (sym same) order;
      transport = ap (λ (x : Protocol). x.agent.transport) same;
      here = ap (λ (x : Protocol). x.agent.here) same;
      queue = λ one in_it. subst (λ (x : Protocol). IsIn one x.queue) same in_it;
    }

  -- Only what is queued has changed, and the time of the last message.
  module _ (q : Protocol) (queue : List Queued) (last : Option ℕ) (same : q ≡ record p { queue = queue; last_send = last }) (less : (one : Queued) → IsIn one queue → IsIn one p.queue) (sent : Option Sent) (by_draw : IsDrawOf r many now p sent many) where
    pub from_queue : IsDrawTo r many now p sent q
    from_queue = record {
      next = many;
      by_draw = by_draw;
      stays_stored = ap (λ (x : Protocol). map.get x.agent.outstanding r.number) same ∙ there;
      order = subst (λ (x : Protocol). IsInOrder x) (sym same) (record { texts = order.texts; families = order.families; numbers = order.numbers });
      transport = ap (λ (x : Protocol). x.agent.transport) same;
      here = ap (λ (x : Protocol). x.agent.here) same;
      queue = λ one in_it. less one (subst (λ (x : Protocol). IsIn one x.queue) same in_it);
    }

  -- ---- a retransmission

  module _ (sent : Option Sent) (q : Protocol) (message : Sent) (is : sent ≡ Some message) (a : IsRepeated p now message q) where
    counted_order : IsInOrder q
    counted_order = subst (λ (x : Protocol). IsInOrder x) (sym a.after) (record {
      texts = order.texts;
      families = order.families;
      numbers = λ number t found. elim (put_or p.agent.outstanding a.number (transmitted (agents.is_tcp p.agent.transport) a.transaction) number t found) [
        | inl own ↦ ap (λ (x : Transaction). number_at x.bytes) own.1 ∙ same_bytes (has_left (agents.is_tcp p.agent.transport) a.transaction) ∙ order.numbers a.number a.transaction a.least.present ∙ sym own.0
        | inr other ↦ order.numbers number t other.1
      ];
    })
      where
        same_bytes : (b : Bool) → number_at (if b then record a.transaction { used = a.transaction.used + 1 } else a.transaction).bytes ≡ number_at a.transaction.bytes
        same_bytes true = refl
        same_bytes false = refl

    -- It is the request's own.
    own_again : a.number ≡ r.number → IsDrawTo r many now p sent q
    own_again same =
        let found : a.transaction ≡ transaction_of r many = Prim.cc (sym a.least.present ∙ (ap (λ (n : ℕ). map.get p.agent.outstanding n) same ∙ there)) in
        let due = is_due_if r many now p (ap (λ (x : Transaction). is_due_of p.agent now x) (sym found) ∙ a.least.passes) in
        let more : transmitted (agents.is_tcp p.agent.transport) a.transaction ≡ transaction_of r (many + 1) = ap (λ (x : Transaction). transmitted (agents.is_tcp p.agent.transport) x) found ∙ one_more r many now p due in
        let after : q ≡ after_sending now (record p { agent = stored_under p.agent r.number (transaction_of r (many + 1)) }) =
        a.after ∙ (ap (λ (x : Transaction). after_sending now (record p { agent = stored_under p.agent a.number x })) more
        ∙ ap (λ (n : ℕ). after_sending now (record p { agent = stored_under p.agent n (transaction_of r (many + 1)) })) same) in
        record {
          next = many + 1;
          by_draw = OwnAgain due
              (is ∙ ap Some (a.is_sent ∙ ap (λ (x : Transaction). record { bytes = x.bytes; transport = p.agent.transport; from = p.agent.here; to = x.to }) found))
              refl;
          stays_stored = ap (λ (x : Protocol). map.get x.agent.outstanding r.number) after ∙ put_there p.agent.outstanding r.number (transaction_of r (many + 1));
          order = counted_order;
          transport = ap (λ (x : Protocol). x.agent.transport) after;
          here = ap (λ (x : Protocol). x.agent.here) after;
          queue = λ one in_it. subst (λ (x : Protocol). IsIn one x.queue) after in_it;
        }

    -- It is another request's.
    number_is : number_at message.bytes ≡ a.number
    number_is = ap (λ (m : Sent). number_at m.bytes) a.is_sent ∙ order.numbers a.number a.transaction a.least.present

    other_again : is_eq (nat_cmp r.number a.number) ≡ false → IsDrawTo r many now p sent q
    other_again apart =
        let differ : a.number ≡ r.number → ⊥ = λ same. clash (is_eq (nat_cmp r.number a.number)) (same_key r.number a.number (sym same)) apart in
        record {
          next = many;
          by_draw = Other message is (inl (λ same. differ (sym number_is ∙ same)))
              (λ due. subst (λ (n : ℕ). n < r.number) (sym number_is) (less_of a.number r.number (a.least.least r.number (transaction_of r many) there (due_of_it r many now p due)) differ))
              refl;
          stays_stored = ap (λ (x : Protocol). map.get x.agent.outstanding r.number) a.after
              ∙ stays_put p.agent.outstanding a.number r.number (transmitted (agents.is_tcp p.agent.transport) a.transaction) apart ∙ there;
          order = counted_order;
          transport = ap (λ (x : Protocol). x.agent.transport) a.after;
          here = ap (λ (x : Protocol). x.agent.here) a.after;
          queue = λ one in_it. subst (λ (x : Protocol). IsIn one x.queue) a.after in_it;
        }

    again : IsDrawTo r many now p sent q
    again = elim (cases_Bool (is_eq (nat_cmp r.number a.number))) [
      | inl same ↦ own_again (sym (same_number r.number a.number same))
      | inr apart ↦ other_again apart
    ]

  -- ---- another message

  module _ (none : IsNoneDue r many now p) (sent : Option Sent) (q : Protocol) where
    never : {A : Type 0} → IsDue r many now p → A
    never due = never_both r many now p due none

    still : IsStill p sent q → IsDrawTo r many now p sent q
    still is = as_before q is.1 sent (Still is.0 none refl)

    -- A reply to the server.
    answers : (o : Option Queued) → find is_answer p.queue ≡ o → IsAnswerSent o p sent q → IsDrawTo r many now p sent q
    answers None found is = still is
    answers (Some one) found is =
        from_queue q (without_answer p.queue) p.last_send is.1 (λ x in_it. in_others is_answer x p.queue in_it) sent
        (Other _ is.0 (inr (one, found_in is_answer p.queue one found, refl)) (λ due. never due) refl)

    -- The first queued message.
    queued : (one : Queued) (rest : List Queued) → p.queue ≡ one ∷ rest → (o : Option Sent) → sent ≡ o → Sends o (λ (s : Sent). IsQueuedSent p now one rest s q) → IsDrawTo r many now p sent q
    queued one rest at None sent_is is = absurd is
    queued one rest at (Some s) sent_is is =
        from_queue q rest (Some now) is.after (λ x in_it. subst (λ (l : List Queued). IsIn x l) (sym at) (inr in_it)) sent
        (Other s sent_is (inr (one, subst (λ (l : List Queued). IsIn one l) (sym at) (inl refl), ap (λ (m : Sent). m.bytes) is.is_sent)) (λ due. never due) refl)

    -- A request that is made now.
    module _ (s : Sent) (sent_is : sent ≡ Some s) (request : TurnRequest) (number : ℕ) (lawful : IsLawfulRequest request) (made : IsMade p request number s) where
      abbrev text : List ℕ
      text = request_text p.auth request number

      fits : number < 2 ^ 96
      fits = let is = made.is_next.is in omega (arith, is)

      text_numbered : number_at text ≡ number
      text_numbered = numbered p.auth request number order.texts lawful fits

      unused : map.get p.agent.outstanding number ≡ None
      unfolding is_taken
      unused = none_some (map.get p.agent.outstanding number) (first_false (is_some (map.get p.agent.outstanding number)) (awaits number p.phase || is_any_awaited number p.allocations) made.is_next.free)

      differs : number_at text ≡ r.number → ⊥
      differs same = absurd (Prim.cc (sym unused ∙ (ap (λ (n : ℕ). map.get p.agent.outstanding n) (sym text_numbered ∙ same) ∙ there)))

      apart : is_eq (nat_cmp r.number (number_at text)) ≡ false
      apart = elim (cases_Bool (is_eq (nat_cmp r.number (number_at text)))) [
        | inl same ↦ absurd (differs (sym (same_number r.number (number_at text) same)))
        | inr is ↦ is
      ]

      abbrev with_it : agents.Agent
      with_it = with_request p.agent text p.server now

      makes : q.agent ≡ with_it → q.auth ≡ p.auth → q.families ≡ p.families → q.queue ≡ p.queue → IsDrawTo r many now p sent q
      makes agent auth_is families queue = record {
        next = many;
        by_draw = Other s sent_is (inl (λ same. differs (ap number_at (sym (ap (λ (m : Sent). m.bytes) made.is_sent)) ∙ same))) (λ due. never due) refl;
        stays_stored = ap (λ (x : agents.Agent). map.get x.outstanding r.number) agent ∙ (stays_put p.agent.outstanding (number_at text) r.number (started p.agent text p.server now) apart ∙ there);
        order = record {
          texts = subst (λ (x : auth.Client). HasShortTexts x) (sym auth_is) order.texts;
          families = subst (λ (n : ℕ). n ≤ 2) (ap length (sym families)) order.families;
          numbers = subst (λ (x : agents.Agent). ShowsNumbers x) (sym agent) (λ other t found. elim (put_or p.agent.outstanding (number_at text) (started p.agent text p.server now) other t found) [
            | inl own ↦ ap (λ (x : Transaction). number_at x.bytes) own.1 ∙ sym own.0
            | inr old ↦ order.numbers other t old.1
          ]);
        };
        transport = ap (λ (x : agents.Agent). x.transport) agent;
        here = ap (λ (x : agents.Agent). x.here) agent;
        queue = λ one in_it. subst (λ (l : List Queued). IsIn one l) queue in_it;
      }

    first : (o : Option Sent) → sent ≡ o → Sends o (λ (s : Sent). IsFirstSent p now s q) → IsDrawTo r many now p sent q
    unfolding first_allocated sent_at_once
    first None sent_is is = absurd is
    first (Some s) sent_is is =
        makes s sent_is (FirstAllocate p.allocates p.families p.options) is.number is.lawful is.made
        (ap (λ (x : Protocol). x.agent) is.after) (ap (λ (x : Protocol). x.auth) is.after) (ap (λ (x : Protocol). x.families) is.after) (ap (λ (x : Protocol). x.queue) is.after)

    refreshes : (o : Option Sent) → sent ≡ o → Sends o (λ (s : Sent). IsRefreshSent p now s q) → IsDrawTo r many now p sent q
    unfolding first_refreshed sent_at_once
    refreshes None sent_is is = absurd is
    refreshes (Some s) sent_is is =
        makes s sent_is (RefreshRequest p.options.lifetime) is.number is.lawful is.made
        (ap (λ (x : Protocol). x.agent) is.after) (ap (λ (x : Protocol). x.auth) is.after) (ap (λ (x : Protocol). x.families) is.after) (ap (λ (x : Protocol). x.queue) is.after)

    binds : (channel : ℕ) (peer : SocketAddr) (o : Option Sent) → sent ≡ o → Sends o (λ (s : Sent). IsChannelRenewalSent p channel peer now s q) → IsDrawTo r many now p sent q
    unfolding first_bound sent_at_once
    binds channel peer None sent_is is = absurd is
    binds channel peer (Some s) sent_is is =
        makes s sent_is (ChannelBind channel peer) is.number is.lawful is.made
        (ap (λ (x : Protocol). x.agent) is.after) (ap (λ (x : Protocol). x.auth) is.after) (ap (λ (x : Protocol). x.families) is.after) (ap (λ (x : Protocol). x.queue) is.after)

    permits : (ip : IpAddr) (o : Option Sent) → sent ≡ o → Sends o (λ (s : Sent). IsRenewalSent p ip now s q) → IsDrawTo r many now p sent q
    unfolding first_permitted sent_at_once
    permits ip None sent_is is = absurd is
    permits ip (Some s) sent_is is =
        makes s sent_is (CreatePermission (ip ∷ [])) is.number is.lawful is.made
        (ap (λ (x : Protocol). x.agent) is.after) (ap (λ (x : Protocol). x.auth) is.after) (ap (λ (x : Protocol). x.families) is.after) (ap (λ (x : Protocol). x.queue) is.after)

    renews : (o : Option Want) → IsRenewed o p now sent q → IsDrawTo r many now p sent q
    renews None is = still is
    renews (Some Refresh) is = refreshes sent refl is
    renews (Some (Channel channel peer)) is = binds channel peer sent refl is
    renews (Some (Permission ip)) is = permits ip sent refl is

    starts : (f : Phase) → IsStarted f p now sent q → IsDrawTo r many now p sent q
    starts Initial is = first sent refl is
    starts (InitialSent numbers) is = still is
    starts (Authenticating numbers) is = still is
    starts Authenticated is = renews (wanted now p.allocations) is
    starts Ended is = still is

    goes_on : (queue : List Queued) → p.queue ≡ queue → IsNextSent queue p now sent q → IsDrawTo r many now p sent q
    goes_on [] at is = starts p.phase is
    goes_on (one ∷ rest) at is = queued one rest at sent refl is

    fresh : (rests : Bool) → MatchBool rests (IsAnswerSent (find is_answer p.queue) p sent q) (IsNextSent p.queue p now sent q) → IsDrawTo r many now p sent q
    fresh true is = answers (find is_answer p.queue) refl is
    fresh false is = goes_on p.queue refl is

  pub draws_by : (sent : Option Sent) (q : Protocol) → IsTransmitted p now sent q → IsDrawTo r many now p sent q
  draws_by sent q (Again message is a) = again sent q message is a
  draws_by sent q (Fresh none is) = fresh (none_due_if r many now p (none r.number (transaction_of r many) there)) sent q (is_resting (pace_of p) p.last_send now) is
