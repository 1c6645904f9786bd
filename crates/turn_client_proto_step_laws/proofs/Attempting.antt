-- A request of the server's that announces a connection which a peer opened is a step of a run (RFC 6062,
-- section 4.4).
use Rattle.std.proofs.Common.{◌≡◌, ℕ, ◌==◌, Bool, true, false, List, [], ◌∷◌, ◌++◌, length, Option, Some, None, if◌then◌else◌, refl, sym, subst, arith, inl, inr}
use Rattle.std.proofs.lemmas.Bool.{eqb-true}
use Rattle.std.specs.List.{find}
use Rattle.std.specs.declared.net.socket_addr.SocketAddr.{SocketAddr}
use Rattle.turn_client_proto_timers.specs.StunTypesWire.Attributes.{kind_at}
use Rattle.turn_client_proto_timers.specs.StunTypesWire.Grammar.{number_at, refusal}
use Rattle.turn_client_proto_timers.specs.StunTypesWire.declared.class.MessageClass.{MessageClass}
use Rattle.turn_client_proto_timers.specs.StunTypesWire.declared.class.MessageClass.TheVariants.{Request, Indication, Success, Error}
use Rattle.turn_client_proto_timers.specs.StunTypesWire.Types.{class_of, method_of}
use Rattle.turn_client_proto_recv.specs.StunProtoClient.Client as signers
use Rattle.turn_client_proto_timers.specs.StunProtoAgent.Sending.{is_request, is_request_class}
use Rattle.turn_client_proto_recv.specs.TurnTypesAttributes.TurnRegistry.{connection_attempt_method}
use Rattle.turn_client_proto_timers.specs.Allocation.Changes.{change_first}
use Rattle.turn_client_proto_timers.specs.Peers.Channel.Numbers.{AreDistinct}
use Rattle.turn_client_proto_timers.specs.Connection.Attempts.{attempt_by, attempted, is_joining}
use Rattle.turn_client_proto_timers.specs.TurnRuns.Messages as run
use Rattle.turn_client_proto_timers.specs.Messages.Answers.{answer_class, answer_text}
use Rattle.turn_client_proto_timers.specs.Messages.declared.answer.AttemptAnswer.{AttemptAnswer}
use Rattle.turn_client_proto_timers.specs.Messages.declared.answer.AttemptAnswer.TheVariants.{Accepted, AlreadyExists, BadRequest, Failed}
use Rattle.turn_client_proto_timers.specs.Messages.Reported.{connection_reported, peer_reported}
use Rattle.turn_client_proto_timers.specs.TurnRuns.Steps.{ClientStep, IsTried}
use Rattle.turn_client_proto_timers.specs.TurnRuns.StunWire.{decoded_by}
use Rattle.turn_client_proto_timers.specs.Core.Attempting.{IsAttemptTaken, after_attempt, after_attempt_in, after_attempt_of, answering, is_at_limit, is_attempt, may_join, queued_answer, rejecting}
use Rattle.turn_client_proto_timers.specs.Core.Responding.{judged}
use Rattle.turn_client_proto_timers.specs.Messages.Waiting.{Queued}
use Rattle.turn_client_proto_timers.specs.Core.declared.protocol.Protocol.{Protocol}
use Rattle.turn_client_proto_timers.proofs.Messages.Answering.{answer_is}
use Rattle.turn_client_proto_step_laws.specs.Adding.{IsSignedFor}
use Rattle.turn_client_proto_step_laws.specs.ClientWords.{IsStored, IsQueued, client_words}
use Rattle.turn_client_proto_step_laws.specs.Held.{Allocation}
use Rattle.turn_client_proto_step_laws.specs.RunClient.{Client, moved, parts_of}
use Rattle.turn_client_proto_step_laws.specs.RunSteps.{IsRunStep, call_of}
use Rattle.turn_client_proto_step_laws.specs.Sound.{IsOrderly, IsReady}
use Rattle.turn_client_proto_step_laws.proofs.Adding.{still_queued}
use Rattle.turn_client_proto_step_laws.proofs.Asking.{IsUnderWay}
use Rattle.turn_client_proto_step_laws.proofs.Processing.{done}
use Rattle.turn_client_proto_step_laws.proofs.Joining.{AreJoining, IsJoining, Learning, first_joining, joining_orderly, stored_joining, none_connects, waited_itself}
use Rattle.turn_client_proto_step_laws.proofs.Lessening.{same_first_distinct}
use Rattle.turn_client_proto_step_laws.proofs.Lists.{both_so, in_either, nothing_after}
use Rattle.turn_client_proto_step_laws.proofs.Orderly.{queue_orderly, until_all}
use Rattle.turn_client_proto_step_laws.proofs.Plain.{counts_none, held_is_stored, nothing_transmitted, notices}
use Rattle.turn_client_proto_step_laws.proofs.Polling.{by_test}
use Rattle.turn_client_proto_step_laws.proofs.Signed.{signed_arrives}

-- ---- a result

response_class : (answer : AttemptAnswer) → run.IsResponse (answer_class answer)
response_class Accepted = inl refl
response_class BadRequest = inr refl
response_class AlreadyExists = inr refl
response_class Failed = inr refl

-- A queued reply is a response.
pub answer_ready : (client : signers.Client) (answer : AttemptAnswer) (number : ℕ) (from : SocketAddr) → IsReady (queued_answer from (answer_text client answer number))
answer_ready client answer number from = inr (refl, subst run.IsResponse (sym (answer_is client answer number)) (response_class answer))

-- ---- a connection that is started

-- A connection with this ID and peer becomes known; the server announced it in the request with this
-- transaction ID.
abbrev begins : ℕ → SocketAddr → ℕ → Learning
begins connection peer number w = w ≡ attempt_by connection peer number

started_joining : (connection : ℕ) (peer : SocketAddr) (number : ℕ) (a : Allocation) → IsJoining none_connects (begins connection peer number) a (attempted connection peer number a)
started_joining connection peer number a = record {
  others = refl;
  connecting = λ c listed. inl listed;
  waiting = λ w listed. elim (in_either w a.waiting (attempt_by connection peer number ∷ []) listed) [
    | inl was ↦ inl (waited_itself a.waiting w was)
    | inr own ↦ elim own [ inl same ↦ inr (sym same) | inr none ↦ absurd none ]
  ];
}

-- ---- the request

request_class : (class : MessageClass) → is_request_class class ≡ true → class ≡ Request
request_class Request is = refl
request_class Indication is = absurd (Prim.cc is)
request_class Success is = absurd (Prim.cc is)
request_class Error is = absurd (Prim.cc is)

module _ (c : Client) (signer : signers.Client) (bytes : List ℕ) (message : refusal bytes ≡ None) (own : IsSignedFor c bytes) (under_way : IsUnderWay c (bytes ∷ []) (judged signer c.core)) where
  abbrev mid : Protocol
  mid = judged signer c.core

  abbrev number : ℕ
  number = number_at bytes

  tried : (core : Protocol) → is_attempt bytes ≡ true → IsTried client_words (call_of c (bytes ∷ []) None [] (moved c c.transmitted core))
  tried core is =
      let both = both_so (is_request bytes) (method_of (kind_at bytes) == connection_attempt_method) is in
      record {
        bytes = bytes;
        attempt = decoded_by bytes;
        arrives = signed_arrives c bytes (moved c c.transmitted core) message own;
        class_is = request_class (class_of (kind_at bytes)) both.0;
        method_is = eqb-true (method_of (kind_at bytes)) connection_attempt_method both.1;
      }

  -- The client with this queue and these allocations.
  module _ (is : is_attempt bytes ≡ true) (queue : List Queued) (left : List Allocation) (queued : (m : run.Message) → IsQueued queue m → IsQueued c.core.queue m)
      (stored : (h : run.Held) → IsStored left h → IsStored c.core.allocations h) (orderly : IsOrderly (record (parts_of mid) { allocations = left; queue = queue })) where
    abbrev core : Protocol
    core = record mid { allocations = left; queue = queue }

    step : ClientStep client_words (call_of c (bytes ∷ []) None [] (moved c c.transmitted core))
    step = record {
      account = refl;
      seed = refl;
      accepts = λ a. a;
      realms = under_way.realms;
      counted = (counts_none c core refl).counted;
      few = (counts_none c core refl).few;
      started = [];
      requests = λ m h. absurd h;
      numbered = omega arith;
      outstanding = λ m h. inl h;
      queued = λ m h. inl (queued m h);
      taken = λ n h. inr (inr (tried core is));
      draws = nothing_transmitted [] c;
      handles = λ x h. inl h;
      buffers = λ x h. inr h;
      gained = [];
      gains = λ h k. inl (stored h k);
      answers = λ t h. absurd h;
      once = tt;
      spent = λ t m h. absurd h;
      known = λ t h. absurd h;
      is_of = λ t h. absurd h;
      decodes = nothing_after (notices c.core.events);
      shows = λ h k. held_is_stored left h k;
      visible = λ h i. absurd i;
      waits = λ n p w. inr (inr (inl (tried core is)));
      attempted = λ n h. inr (tried core is);
      delivers = λ p h. absurd h;
      names = λ p h. absurd h;
    }

    takes : IsRunStep c (bytes ∷ []) None [] core
    takes = record {
      after = moved c c.transmitted core;
      core_is = refl;
      waits = refl;
      step = step;
      sound = record {
        orderly = orderly;
        can_ask = until_all c.core.phase (record {
          account = under_way.can_ask.account;
          settled = under_way.can_ask.settled;
          texts = under_way.can_ask.texts;
          settings = under_way.can_ask.settings;
          words = under_way.can_ask.words;
        });
      };
    }

  module _ (is : is_attempt bytes ≡ true) where
    -- The request is answered at once.
    answers : (answer : AttemptAnswer) → IsRunStep c (bytes ∷ []) None [] (answering answer number mid)
    unfolding answering
    answers answer =
        let q = queued_answer mid.agent.here (answer_text mid.auth answer number) in
        takes is (mid.queue ++ q ∷ []) c.core.allocations (still_queued c.core.queue q refl) (λ h k. k)
        (queue_orderly (parts_of mid) q (answer_ready mid.auth answer number mid.agent.here) under_way.orderly)

    -- The announced connection is added to the allocation.
    begins_one : (connection : ℕ) (peer : SocketAddr) → IsRunStep c (bytes ∷ []) None [] (record mid { allocations = change_first (may_join peer mid) (attempted connection peer number) mid.allocations })
    begins_one connection peer =
        let change = attempted connection peer number in
        let left : List Allocation = change_first (may_join peer mid) change c.core.allocations in
        let are : AreJoining none_connects (begins connection peer number) c.core.allocations left =
        first_joining none_connects (begins connection peer number) (may_join peer mid) change c.core.allocations (λ a found. started_joining connection peer number a) in
        let distinct : AreDistinct left = same_first_distinct (may_join peer mid) change (λ a. (refl, refl)) c.core.allocations under_way.orderly.distinct in
        takes is c.core.queue left (λ m h. h) (stored_joining none_connects (begins connection peer number) (parts_of c.core) left are)
        (joining_orderly none_connects (begins connection peer number) (parts_of mid) left are (λ k h. absurd h) (λ k h. absurd h) distinct under_way.orderly)

    -- The request is rejected, or ignored.
    rejects : (answer : AttemptAnswer) → IsRunStep c (bytes ∷ []) None [] (rejecting answer number mid)
    unfolding rejecting
    rejects answer =
        elim (is_at_limit mid.max_connection_attempts (length mid.queue)) as (λ (b : Bool). IsRunStep c (bytes ∷ []) None [] (if b then mid else answering answer number mid)) [
          | true ↦ done c (bytes ∷ []) mid mid under_way refl
          | false ↦ answers answer
        ]

    by_allocation : (found : Option Allocation) (connection : ℕ) (peer : SocketAddr) → IsRunStep c (bytes ∷ []) None [] (after_attempt_in found connection peer number mid)
    by_allocation None connection peer = rejects BadRequest
    by_allocation (Some a) connection peer =
        let begun : Protocol = record mid { allocations = change_first (may_join peer mid) (attempted connection peer number) mid.allocations } in
        let full : Bool = is_at_limit mid.max_connection_attempts (length a.waiting) in
        elim (is_joining peer a) as (λ (b : Bool). IsRunStep c (bytes ∷ []) None [] (if b then rejecting AlreadyExists number mid
        else if full then rejecting Failed number mid else begun)) [
          | true ↦ rejects AlreadyExists
          | false ↦ elim full as (λ (b : Bool). IsRunStep c (bytes ∷ []) None [] (if b then rejecting Failed number mid else begun)) [
            | true ↦ rejects Failed
            | false ↦ begins_one connection peer
          ]
        ]

    by_names : (connection : Option ℕ) (peer : Option SocketAddr) → IsRunStep c (bytes ∷ []) None [] (after_attempt_of connection peer number mid)
    by_names None peer = rejects BadRequest
    by_names (Some connection) None = rejects BadRequest
    by_names (Some connection) (Some peer) = by_allocation (find (may_join peer mid) mid.allocations) connection peer

  pub attempt_step : (handled : Bool) (new : Protocol) → IsAttemptTaken mid bytes handled new → IsRunStep c (bytes ∷ []) None [] new
  attempt_step handled new h =
      by_test (is_attempt bytes)
      (λ (is : is_attempt bytes ≡ true) (o : (handled ≡ true) × (new ≡ after_attempt bytes mid)).
      subst (λ (p : Protocol). IsRunStep c (bytes ∷ []) None [] p) (sym o.1) (by_names is (connection_reported bytes) (peer_reported bytes)))
      (λ (_ : is_attempt bytes ≡ false) (o : (handled ≡ false) × (new ≡ mid)). done c (bytes ∷ []) mid new under_way o.1) h
