-- What a new client transmits first, by the contract of `poll_transmit` alone.
use Rattle.std.proofs.Common.{◌≡◌, ℕ, zero, suc, ◌<◌, arith, Bool, true, false, cond, List, [], ◌∷◌, Option, Some, None, refl, sym, ap, ◌∙◌, subst}
use Rattle.std.specs.Prelude.{◌||◌, is_some, find}
use Rattle.std.specs.Bool.{MatchBool}
use Rattle.std.specs.Cmp.{eq_by_cmp_equiv, nat_cmp_total}
use Rattle.std.specs.FinMap as map
use Rattle.std.specs.Ordering.{is_eq, nat_cmp}
use Rattle.std.specs.declared.net.socket_addr.SocketAddr.{SocketAddr}
use Rattle.rand_chacha.specs.ChaCha.{ChaCha}
use Rattle.turn_client_proto_api.specs.StunProtoTransaction.Agents.{Transaction}
use Rattle.turn_client_proto_api.specs.StunProtoAgent.Sending.{started}
use Rattle.turn_client_proto_api.specs.StunProtoAgent.State as agents
use Rattle.turn_client_proto_api.proofs.StunProtoTransaction.Leasts.{same_number}
use Rattle.turn_client_proto_api.specs.StunTypesWire.Grammar.{number_at}
use Rattle.stun_types_base.specs.declared.family.AddressFamily.{AddressFamily}
use Rattle.stun_types_base.specs.declared.transport.TransportType.{TransportType}
use Rattle.turn_client_proto_messages.specs.Allocation.declared.allocation.Allocation.{Allocation}
use Rattle.turn_client_proto_messages.specs.Allocation.Listed.{is_any_awaited}
use Rattle.turn_client_proto_messages.specs.StunProtoClient.Client.{Client}
use Rattle.turn_client_proto_core.specs.Numbering.{IsNextNumber, awaits, following, generated, is_taken}
use Rattle.turn_client_proto_messages.specs.Waiting.{Queued, is_answer}
use Rattle.turn_client_proto_core.specs.declared.protocol.Phase.{Phase}
use Rattle.turn_client_proto_core.specs.declared.protocol.Phase.TheVariants.{InitialSent}
use Rattle.turn_client_proto_core.specs.declared.protocol.Protocol.{Protocol}
use Rattle.turn_client_proto_timers.specs.Polling.{pace_of}
use Rattle.turn_client_proto_timers.specs.Drawing.{Again, Fresh, IsAnswerSent, IsStarted, IsTransmitted, IsFirstSent, IsNextSent, Sends, after_sending, first_allocated, is_resting, sent_at_once}
use Rattle.turn_client_proto_api.specs.Sent.{Sent}
use Rattle.turn_client_proto_api.specs.declared.options.AllocateOptions.{AllocateOptions}
use Rattle.turn_client_proto_messages.specs.Judging.{signer_of}
use Rattle.turn_client_proto_messages.specs.Requests.{request_text}
use Rattle.turn_client_proto_messages.specs.declared.request.TurnRequest.TheVariants.{FirstAllocate}
use Rattle.turn_client_proto_handshake_laws.specs.Sent.{Beginning, Begins, first_number, first_request, first_sent}
use Rattle.turn_client_proto_handshake_laws.proofs.Waiting.{IsWaiting, clash, transaction_of}

-- What is transmitted, if something is.
sends_one : (answer : Option Sent) (Is : Sent → Type 0) → Sends answer Is → (sent : Sent) × (answer ≡ Some sent) × Is sent
sends_one None Is is = absurd is
sends_one (Some sent) Is is = (sent, refl, is)

module _ (b : Beginning) (p : Protocol) (is : Begins b p) where
  none_there : {A : Type 0} (n : ℕ) (t : Transaction) → map.get p.agent.outstanding n ≡ Some t → A
  none_there n t there = absurd (Prim.cc (sym (map.get-empty nat_cmp n) ∙ sym (ap (λ (a : agents.Agent). map.get a.outstanding n) is.agent) ∙ there))

  -- ---- its number

  -- No transaction ID is taken.
  none_taken : (n : ℕ) → is_taken p n ≡ false
  unfolding is_taken awaits
  none_taken n =
      ap (λ (a : agents.Agent). is_some (map.get a.outstanding n) || (awaits n p.phase || is_any_awaited n p.allocations)) is.agent
      ∙ (ap (λ (o : Option Transaction). is_some o || (awaits n p.phase || is_any_awaited n p.allocations)) (map.get-empty nat_cmp n)
      ∙ (ap (λ (f : Phase). awaits n f || is_any_awaited n p.allocations) is.phase
      ∙ ap (λ (l : List Allocation). is_any_awaited n l) is.allocations))

  none_passed : (from steps : ℕ) → ((k : ℕ) → k < steps → is_taken p (following from k) ≡ true) → steps ≡ 0
  none_passed from zero passed = refl
  none_passed from (suc steps) passed = clash (is_taken p (following from 0)) (passed 0 (omega arith)) (none_taken (following from 0))

  number_is : (number : ℕ) → IsNextNumber p number → number ≡ first_number b
  number_is number next =
      next.is ∙ (ap (following (generated p.rng)) (none_passed (generated p.rng) next.steps next.passed)
      ∙ ap (λ (rng : ChaCha). following (generated rng) 0) is.rng)

  -- ---- its request

  text_is : (number : ℕ) → number ≡ first_number b → request_text p.auth (FirstAllocate p.allocates p.families p.options) number ≡ first_request b
  text_is number same =
      ap (λ (c : Client). request_text c (FirstAllocate p.allocates p.families p.options) number) is.auth
      ∙ (ap (λ (t : TransportType). request_text (signer_of b.config) (FirstAllocate t p.families p.options) number) is.allocates
      ∙ (ap (λ (l : List AddressFamily). request_text (signer_of b.config) (FirstAllocate b.config.transport l p.options) number) is.families
      ∙ (ap (λ (o : AllocateOptions). request_text (signer_of b.config) (FirstAllocate b.config.transport b.config.families o) number) is.options
      ∙ ap (λ (n : ℕ). request_text (signer_of b.config) (FirstAllocate b.config.transport b.config.families b.config.options) n) same)))

  put_there : (key : ℕ) (x : Transaction) → map.get (map.insert p.agent.outstanding key x) key ≡ Some x
  put_there key x =
      let same : is_eq (nat_cmp key key) ≡ true = (eq_by_cmp_equiv nat_cmp_total).refl key in
      map.get-insert nat_cmp_total p.agent.outstanding key x key ∙ ap (λ (y : Bool). cond y (Some x) (map.get p.agent.outstanding key)) same

  put_only : (key : ℕ) (x : Transaction) (other : ℕ) (y : Transaction) → map.get (map.insert p.agent.outstanding key x) other ≡ Some y → (other ≡ key) × (y ≡ x)
  put_only key x other y there =
      elim (is_eq (nat_cmp other key)) as (λ (z : Bool). is_eq (nat_cmp other key) ≡ z → cond z (Some x) (map.get p.agent.outstanding other) ≡ Some y → (other ≡ key) × (y ≡ x)) [
        | true ↦ λ same found. (same_number other key same, Prim.cc (sym found))
        | false ↦ λ apart found. none_there other y found
      ] refl (sym (map.get-insert nat_cmp_total p.agent.outstanding key x other) ∙ there)

  started_so : (text : List ℕ) → text ≡ first_request b → started p.agent text p.server b.made ≡ transaction_of b 1
  started_so text same =
      ap (λ (l : List ℕ). started p.agent l p.server b.made) same
      ∙ (ap (λ (s : SocketAddr). started p.agent (first_request b) s b.made) is.server_is
      ∙ ap (λ (a : agents.Agent). started a (first_request b) b.server b.made) is.agent)

  -- A client whose first request is outstanding, under the transaction ID that it contains.
  waits_for : (number : ℕ) → number ≡ first_number b → number_at (first_request b) ≡ first_number b → IsWaiting b 1 (after_sending b.made (first_allocated number b.made p))
  unfolding first_allocated sent_at_once
  waits_for number same visible =
      let text = request_text p.auth (FirstAllocate p.allocates p.families p.options) number in
      let is_text = text_is number same in
      record {
        number = number_at text;
        there = put_there (number_at text) (started p.agent text p.server b.made) ∙ ap Some (started_so text is_text);
        only = λ other y there. (let found = put_only (number_at text) (started p.agent text p.server b.made) other y there in (found.0, found.1 ∙ started_so text is_text));
        phase = ap (λ (n : ℕ). InitialSent (n ∷ [])) (same ∙ (sym visible ∙ ap number_at (sym is_text)));
        queue = is.queue;
        events = is.events;
        families = is.families;
        transport = ap (λ (a : agents.Agent). a.transport) is.agent;
        here = ap (λ (a : agents.Agent). a.here) is.agent;
      }

  -- ---- its first draw

  -- It transmits its first request, and awaits the response.
  pub record HasRequested (sent : Option Sent) (q : Protocol) : Type 0 where
    pub sent_is : sent ≡ Some (first_sent b)
    pub waits : IsWaiting b 1 q

  pending_request : number_at (first_request b) ≡ first_number b → (sent : Option Sent) (q : Protocol) (one : Sent) → sent ≡ Some one → IsFirstSent p b.made one q → HasRequested sent q
  pending_request visible sent q one sent_is f =
      let same = number_is f.number f.made.is_next in
      record {
        sent_is = sent_is ∙ ap Some (f.made.is_sent
            ∙ (ap (λ (l : List ℕ). record { bytes = l; transport = p.agent.transport; from = p.agent.here; to = p.server }) (text_is f.number same)
            ∙ (ap (λ (a : agents.Agent). record { bytes = first_request b; transport = a.transport; from = a.here; to = p.server }) is.agent
            ∙ ap (λ (s : SocketAddr). record { bytes = first_request b; transport = b.transport; from = b.here; to = s }) is.server_is)));
        waits = subst (λ (x : Protocol). IsWaiting b 1 x) (sym f.after) (waits_for f.number same visible);
      }

  pub first_transmitted : number_at (first_request b) ≡ first_number b → (sent : Option Sent) (q : Protocol) → IsTransmitted p b.made sent q → HasRequested sent q
  first_transmitted visible sent q (Again one e r) = none_there r.number r.transaction r.least.present
  first_transmitted visible sent q (Fresh none fresh) =
      let awake = subst (λ (l : Option ℕ). MatchBool (is_resting (pace_of p) l b.made) (IsAnswerSent (find is_answer p.queue) p sent q) (IsNextSent p.queue p b.made sent q)) is.last_send fresh in
      let empty = subst (λ (l : List Queued). IsNextSent l p b.made sent q) is.queue awake in
      let begins = subst (λ (f : Phase). IsStarted f p b.made sent q) is.phase empty in
      let one = sends_one sent (λ (s : Sent). IsFirstSent p b.made s q) begins in
      pending_request visible sent q one.0 one.1 one.2
