-- What a new client transmits and what its calls return, by the contracts of `poll_transmit` and `poll`
-- alone.
use Rattle.std.proofs.Common.{◌≡◌, ℕ, zero, suc, ◌<◌, arith, true, false, List, [], ◌∷◌, Option, Some, None, refl, sym, ap, ◌∙◌, subst, inl, inr}
use Rattle.std.specs.Prelude.{◌||◌, is_some, find}
use Rattle.std.specs.Bool.{MatchBool}
use Rattle.std.specs.FinMap as map
use Rattle.std.specs.Ordering.{nat_cmp}
use Rattle.std.specs.declared.net.socket_addr.SocketAddr.{SocketAddr}
use Rattle.rand_chacha.specs.ChaCha.{ChaCha}
use Rattle.turn_client_proto_api.specs.StunProtoTransaction.Agents.{Transaction}
use Rattle.turn_client_proto_api.specs.StunProtoAgent.Sending.{started}
use Rattle.turn_client_proto_api.specs.StunProtoAgent.State as agents
use Rattle.turn_client_proto_api.specs.StunTypesWire.Grammar.{number_at}
use Rattle.stun_types_base.specs.declared.family.AddressFamily.{AddressFamily}
use Rattle.stun_types_base.specs.declared.transport.TransportType.{TransportType}
use Rattle.turn_client_proto_messages.specs.Allocation.declared.allocation.Allocation.{Allocation}
use Rattle.turn_client_proto_messages.specs.Allocation.Listed.{is_any_awaited}
use Rattle.turn_client_proto_messages.specs.StunProtoClient.Client.{Client}
use Rattle.turn_client_proto_core.specs.Numbering.{IsNextNumber, awaits, following, generated, is_taken}
use Rattle.turn_client_proto_messages.specs.Waiting.{Queued, is_answer}
use Rattle.turn_client_proto_core.specs.declared.protocol.Phase.{Phase}
use Rattle.turn_client_proto_core.specs.declared.protocol.Phase.TheVariants.{InitialSent}
use Rattle.turn_client_proto_core.specs.declared.protocol.Protocol.{Protocol}
use Rattle.turn_client_proto_timers.specs.Drawing.{Again, Fresh, IsAnswerSent, IsStarted, IsTransmitted, IsFirstSent, IsNextSent, Sends, after_sending, first_allocated, is_resting, sent_at_once}
use Rattle.turn_client_proto_api.specs.Sent.{Sent}
use Rattle.turn_client_proto_api.specs.declared.options.AllocateOptions.{AllocateOptions}
use Rattle.turn_client_proto_messages.specs.Judging.{signer_of}
use Rattle.turn_client_proto_messages.specs.Requests.{request_text}
use Rattle.turn_client_proto_messages.specs.declared.request.TurnRequest.TheVariants.{FirstAllocate}
use Rattle.turn_client_proto_handshake_laws.specs.Requested.{IsOnlyRequested, sent_of, transaction_of}
use Rattle.turn_client_proto_handshake_laws.specs.Stages.{IsAsking, first_requested}
use Rattle.turn_client_proto_handshake_laws.proofs.Only.{clash, put_or, put_there}
use Rattle.turn_client_proto_handshake_laws.proofs.Polls.{idles, is_ticked, pause, refused_or}
use Rattle.turn_client_proto_api.specs.declared.answer.TurnPollRet.{TurnPollRet}
use Rattle.turn_client_proto_api.specs.declared.answer.TurnPollRet.TheVariants as answer
use Rattle.turn_client_proto_timers.specs.Polling.{HasToReportIn, IsPolled, IsPolledIn, ended_of, pace_of, wait_of}
use Rattle.std.specs.List.{list_any}
use Rattle.turn_client_proto_handshake_laws.specs.Sent.{Beginning, Begins, IsUsual, first_number, first_request}

-- What is transmitted, if something is.
pub sends_one : (answer : Option Sent) (Is : Sent → Type 0) → Sends answer Is → (sent : Sent) × (answer ≡ Some sent) × Is sent
sends_one None Is is = absurd is
sends_one (Some sent) Is is = (sent, refl, is)

module _ (b : Beginning) (p : Protocol) (is : Begins b p) where
  pub none_there : {A : Type 0} (n : ℕ) (t : Transaction) → map.get p.agent.outstanding n ≡ Some t → A
  none_there n t there = absurd (Prim.cc (sym (map.get-empty nat_cmp n) ∙ sym (ap (λ (a : agents.Agent). map.get a.outstanding n) is.agent) ∙ there))

  -- ---- its number

  none_taken : (n : ℕ) → is_taken p n ≡ false
  unfolding is_taken awaits
  none_taken n =
      ap (λ (a : agents.Agent). is_some (map.get a.outstanding n) || (awaits n p.phase || is_any_awaited n p.allocations)) is.agent
      ∙ (ap (λ (o : Option Transaction). is_some o || (awaits n p.phase || is_any_awaited n p.allocations)) (map.get-empty nat_cmp n)
      ∙ (ap (λ (f : Phase). awaits n f || is_any_awaited n p.allocations) is.phase
      ∙ ap (λ (l : List Allocation). is_any_awaited n l) is.allocations))

  none_passed : (from steps : ℕ) → ((k : ℕ) → k < steps → is_taken p (following from k) ≡ true) → steps ≡ 0
  none_passed from zero passed = refl
  none_passed from (suc steps) passed = clash (is_taken p (following from 0)) (passed 0 (omega arith)) (none_taken (following from 0))

  number_is : (number : ℕ) → IsNextNumber p number → number ≡ first_number b
  number_is number next =
      next.is ∙ (ap (following (generated p.rng)) (none_passed (generated p.rng) next.steps next.passed)
      ∙ ap (λ (rng : ChaCha). following (generated rng) 0) is.rng)

  -- ---- its request

  text_is : (number : ℕ) → number ≡ first_number b → request_text p.auth (FirstAllocate p.allocates p.families p.options) number ≡ first_request b
  text_is number same =
      ap (λ (c : Client). request_text c (FirstAllocate p.allocates p.families p.options) number) is.auth
      ∙ (ap (λ (t : TransportType). request_text (signer_of b.config) (FirstAllocate t p.families p.options) number) is.allocates
      ∙ (ap (λ (l : List AddressFamily). request_text (signer_of b.config) (FirstAllocate b.config.transport l p.options) number) is.families
      ∙ (ap (λ (o : AllocateOptions). request_text (signer_of b.config) (FirstAllocate b.config.transport b.config.families o) number) is.options
      ∙ ap (λ (n : ℕ). request_text (signer_of b.config) (FirstAllocate b.config.transport b.config.families b.config.options) n) same)))

  started_so : (text : List ℕ) → text ≡ first_request b → started p.agent text p.server b.made ≡ transaction_of b (first_requested b) 1
  started_so text same =
      ap (λ (l : List ℕ). started p.agent l p.server b.made) same
      ∙ (ap (λ (s : SocketAddr). started p.agent (first_request b) s b.made) is.server_is
      ∙ ap (λ (a : agents.Agent). started a (first_request b) b.server b.made) is.agent)

  only_one : (text : List ℕ) → text ≡ first_request b → (key : ℕ) → key ≡ first_number b
      → IsOnlyRequested b (first_requested b) 1 (record p.agent { outstanding = map.insert p.agent.outstanding key (started p.agent text p.server b.made) })
  only_one text same key key_is = record {
    there = ap (map.get (map.insert p.agent.outstanding key (started p.agent text p.server b.made))) (sym key_is)
        ∙ (put_there p.agent.outstanding key (started p.agent text p.server b.made) ∙ ap Some (started_so text same));
    only = λ other y there. elim (put_or p.agent.outstanding key (started p.agent text p.server b.made) other y there) [
      | inl found ↦ found.0 ∙ key_is
      | inr old ↦ none_there other y old.1
    ];
  }

  -- A client whose first request is outstanding.
  asks : IsUsual b.config → (number : ℕ) → number ≡ first_number b → number_at (first_request b) ≡ first_number b → IsAsking b 1 b.made (after_sending b.made (first_allocated number b.made p))
  unfolding first_allocated sent_at_once
  asks usual number same visible =
      let text = request_text p.auth (FirstAllocate p.allocates p.families p.options) number in
      let is_text = text_is number same in
      record {
        settings = record {
          server = is.server_is;
          remote = ap (λ (a : agents.Agent). a.remote) is.agent;
          transport = ap (λ (a : agents.Agent). a.transport) is.agent;
          here = ap (λ (a : agents.Agent). a.here) is.agent;
          waits = ap (λ (a : agents.Agent). a.waits) is.agent;
          allocates = is.allocates;
          families = is.families;
          options = is.options;
          pace = is.pace;
          indications = is.attempt_indications;
          usual = usual;
        };
        requested = only_one text is_text (number_at text) (ap number_at is_text ∙ visible);
        phase = ap (λ (n : ℕ). InitialSent (n ∷ [])) same;
        auth = is.auth;
        allocations = is.allocations;
        queue = is.queue;
        last_send = refl;
        events = is.events;
        closing = is.closing;
        resends = is.resends;
      }

  -- ---- its first draw

  pending_request : IsUsual b.config → number_at (first_request b) ≡ first_number b → (sent : Option Sent) (q : Protocol) (one : Sent) → sent ≡ Some one → IsFirstSent p b.made one q
      → (sent ≡ Some (sent_of b (first_requested b))) × IsAsking b 1 b.made q
  pending_request usual visible sent q one sent_is f =
      let same = number_is f.number f.made.is_next in (
        sent_is ∙ ap Some (f.made.is_sent
            ∙ (ap (λ (l : List ℕ). record { bytes = l; transport = p.agent.transport; from = p.agent.here; to = p.server }) (text_is f.number same)
            ∙ (ap (λ (a : agents.Agent). record { bytes = first_request b; transport = a.transport; from = a.here; to = p.server }) is.agent
            ∙ ap (λ (s : SocketAddr). record { bytes = first_request b; transport = b.transport; from = b.here; to = s }) is.server_is))),
        subst (λ (x : Protocol). IsAsking b 1 b.made x) (sym f.after) (asks usual f.number same visible),
      )

  pub first_transmitted : IsUsual b.config → number_at (first_request b) ≡ first_number b → (sent : Option Sent) (q : Protocol) → IsTransmitted p b.made sent q
      → (sent ≡ Some (sent_of b (first_requested b))) × IsAsking b 1 b.made q
  first_transmitted usual visible sent q (Again one e r) = none_there r.number r.transaction r.least.present
  first_transmitted usual visible sent q (Fresh none fresh) =
      let awake = subst (λ (l : Option ℕ). MatchBool (is_resting (pace_of p) l b.made) (IsAnswerSent (find is_answer p.queue) p sent q) (IsNextSent p.queue p b.made sent q)) is.last_send fresh in
      let empty = subst (λ (l : List Queued). IsNextSent l p b.made sent q) is.queue awake in
      let begins = subst (λ (f : Phase). IsStarted f p b.made sent q) is.phase empty in
      let one = sends_one sent (λ (s : Sent). IsFirstSent p b.made s q) begins in
      pending_request usual visible sent q one.0 one.1 one.2

  -- ---- it is polled before

  pub first_polled : (now : ℕ) (ret : TurnPollRet) (q : Protocol) → IsPolled p now ret q → (ret ≡ answer.WaitUntil now) × (q ≡ p)
  first_polled now ret q polled =
      let none : (number : ℕ) → map.get p.agent.outstanding number ≡ None = λ number. ap (λ (a : agents.Agent). map.get a.outstanding number) is.agent ∙ map.get-empty nat_cmp number in
      elim (refused_or p now ret q polled) [
        | inl by ↦ (
            let k = is_ticked p now ret q is.events (ap (list_any is_answer) is.queue) by in
            let idle = idles p now ret q none k.ticked k.agent k.is_ticked in
            let here = subst (λ (f : Phase). IsPolledIn f (ended_of k.ticked) (wait_of (pause p now ret q) k.ticked) (record p { agent = k.agent }) now ret q) is.phase k.outcome in
            (here.0, here.1 ∙ ap (λ (y : agents.Agent). record p { agent = y }) idle.unchanged))
        | inr refused ↦ (let k = refused.1.has_to_report in
            absurd (subst (λ (f : Phase). HasToReportIn f (ended_of k.ticked) (record p { agent = k.agent }) now) is.phase k.decodes))
      ]
