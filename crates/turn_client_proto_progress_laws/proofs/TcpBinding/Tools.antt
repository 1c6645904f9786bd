-- Tools: what a condition gives, maps of transactions, polls, and what responses are.
use Rattle.std.proofs.Common.{◌≡◌, ℕ, ◌<◌, ◌≤◌, Bool, true, false, cond, Option, Some, None, refl, sym, ap, ◌∙◌, ◌⊎◌, inl, inr, List, [], ◌∷◌, subst, ◌^◌, length}
use Rattle.std.specs.Prelude.{◌&&◌, Result, IfSome, MatchResult, if◌then◌else◌}
use Rattle.std.specs.Bool.{MatchBool}
use Rattle.std.specs.Cmp.{eq_by_cmp_equiv, nat_cmp_total}
use Rattle.std.specs.Ordering.{is_eq, nat_cmp}
use Rattle.turn_client_proto_messages.specs.StunProtoTransaction.Agents.{Transaction}
use Rattle.turn_client_proto_messages.proofs.StunProtoTransaction.Leasts.{same_number}
use Rattle.turn_client_proto_handshake_laws.specs.Core.declared.protocol.Protocol.{Protocol}
use Rattle.turn_client_proto_step_laws.specs.Timers.Drawing.{Sends}
use Rattle.turn_client_proto_messages.specs.Api.Sent.{Sent}
use Rattle.std.specs.List.{list_any}
use Rattle.turn_client_proto_messages.specs.StunTypesBase.Times.{time_after}
use Rattle.turn_client_proto_messages.specs.Api.declared.answer.TurnPollRet.{TurnPollRet}
use Rattle.turn_client_proto_messages.specs.Api.declared.event.TurnEvent.{TurnEvent}
use Rattle.turn_client_proto_messages.specs.Waiting.{is_answer}
use Rattle.turn_client_proto_step_laws.specs.Timers.Polling.{Answers, IsPolled, IsPolledBy, IsRefused, IsAgentPolled, longest_pause, pace_of, wait_to_send}
use Rattle.turn_client_proto_messages.specs.StunTypesWire.Attributes.{kind_at}
use Rattle.turn_client_proto_messages.specs.StunTypesWire.Grammar.{number_at, refusal}
use Rattle.turn_client_proto_messages.specs.StunTypesWire.declared.class.MessageClass.{MessageClass}
use Rattle.turn_client_proto_messages.specs.StunTypesWire.declared.class.MessageClass.TheVariants.{Success, Request, Indication, Error}
use Rattle.turn_client_proto_messages.specs.StunTypesWire.Types.{class_of, is_response_class}
use Rattle.turn_client_proto_messages.specs.StunProtoClient.Challenges.{challenge_visible, is_challenge_code, is_error, reported_of, ChallengeFields}
use Rattle.turn_client_proto_messages.specs.StunProtoAuth.Claims.{claimed, code_visible}
use Rattle.turn_client_proto_messages.specs.StunProtoClient.declared.error.LongTermClientAuthError.{LongTermClientAuthError}
use Rattle.turn_client_proto_messages.specs.StunProtoClient.declared.validation.LongTermClientValidation.{LongTermClientValidation}
use Rattle.turn_client_proto_messages.specs.StunProtoAgent.Handling.{is_response}
use Rattle.turn_client_proto_messages.specs.StunProtoClient.Client.{Client, plain_style}
use Rattle.turn_client_proto_messages.specs.Requests.{request_text, is_signed}
use Rattle.turn_client_proto_messages.specs.StunTypesWire.Registry.{longest_username}
use Rattle.turn_client_proto_messages.specs.StunTypesWrite.ValueReading.{utf8_refusal}
use Rattle.turn_client_proto_messages.specs.StunProtoClient.Client.{Standing, standing_key, standing_of}
use Rattle.turn_client_proto_messages.specs.StunProtoClient.ClientValidation.{IsTaken, IsRejected}
use Rattle.turn_client_proto_messages.specs.StunProtoClient.Digests.{IsRight}
use Rattle.turn_client_proto_messages.specs.StunProtoAgent.Sending.{is_request}
use Rattle.turn_client_proto_messages.specs.OwnClaims.{own_claim}
use Rattle.turn_client_proto_messages.specs.ReadTexts.{HasReadTexts}
use Rattle.turn_client_proto_messages.specs.ShortTexts.{HasShortTexts}
use Rattle.turn_client_proto_messages.specs.ReportedRequests.{CanBeRead, IsLawfulRequest, reported_request}
use Rattle.turn_client_proto_messages.specs.declared.request.TurnRequest.{TurnRequest}
use Rattle.turn_client_proto_messages.specs.TurnRuns.StunWire.{decoded_by}
use Rattle.std.specs.FinMap as map
use Rattle.turn_client_proto_messages.specs.Api.declared.answer.TurnPollRet.TheVariants as answer

-- ---- tools

pub where_true : (A B : Type 0) (b : Bool) → b ≡ true → MatchBool b A B → A
where_true A B true so is = is
where_true A B false so is = absurd (Prim.cc so)

pub where_false : (A B : Type 0) (b : Bool) → b ≡ false → MatchBool b A B → B
where_false A B true not_so is = absurd (Prim.cc not_so)
where_false A B false not_so is = is

pub either : (A : Type 0) (b : Bool) → MatchBool b A A → A
either A true is = is
either A false is = is

pub clash : {A : Type 0} (b : Bool) → b ≡ true → b ≡ false → A
clash b t f = absurd (Prim.cc (sym t ∙ f))

-- ---- maps of transactions

abbrev pub Table : Type 0
Table = map.FinMap nat_cmp Transaction

pub put_there : (m : Table) (key : ℕ) (x : Transaction) → map.get (map.insert m key x) key ≡ Some x
put_there m key x =
    let same : is_eq (nat_cmp key key) ≡ true = (eq_by_cmp_equiv nat_cmp_total).refl key in
    map.get-insert nat_cmp_total m key x key ∙ ap (λ (y : Bool). cond y (Some x) (map.get m key)) same

-- What is found after an insertion is the inserted one, or was there before under another key.
pub put_or : (m : Table) (key : ℕ) (x : Transaction) (other : ℕ) (y : Transaction) → map.get (map.insert m key x) other ≡ Some y
    → ((other ≡ key) × (y ≡ x)) ⊎ ((is_eq (nat_cmp other key) ≡ false) × (map.get m other ≡ Some y))
put_or m key x other y there =
    elim (is_eq (nat_cmp other key)) as (λ (z : Bool). is_eq (nat_cmp other key) ≡ z → cond z (Some x) (map.get m other) ≡ Some y → ((other ≡ key) × (y ≡ x)) ⊎ ((is_eq (nat_cmp other key) ≡ false) × (map.get m other ≡ Some y))) [
      | true ↦ λ same found. inl (same_number other key same, Prim.cc (sym found))
      | false ↦ λ apart found. inr (apart, found)
    ] refl (sym (map.get-insert nat_cmp_total m key x other) ∙ there)

-- What is found after a removal was there before, under another key.
pub taken_out : (m : Table) (key other : ℕ) (y : Transaction) → map.get (map.remove m key) other ≡ Some y
    → (is_eq (nat_cmp other key) ≡ false) × (map.get m other ≡ Some y)
taken_out m key other y there =
    elim (is_eq (nat_cmp other key)) as (λ (z : Bool). is_eq (nat_cmp other key) ≡ z → cond z None (map.get m other) ≡ Some y → (is_eq (nat_cmp other key) ≡ false) × (map.get m other ≡ Some y)) [
      | true ↦ λ same found. absurd (Prim.cc found)
      | false ↦ λ apart found. (apart, found)
    ] refl (sym (map.get-remove nat_cmp_total m key other) ∙ there)

-- What is transmitted, if something is.
pub sends_one : (answer : Option Sent) (Is : Sent → Type 0) → Sends answer Is → (sent : Sent) × (answer ≡ Some sent) × Is sent
sends_one None Is is = absurd is
sends_one (Some sent) Is is = (sent, refl, is)

-- ---- a poll

-- Memory ran out, or it did not.
pub refused_or : (p : Protocol) (now : ℕ) (ret : TurnPollRet) (q : Protocol) → IsPolled p now ret q → IsPolledBy p.events p now ret q ⊎ ((ret ≡ answer.NoMemory) × IsRefused p now q)
refused_or p now (answer.WaitUntil time) q is = inl is
refused_or p now (answer.AllocateTcpSocket connection socket peer) q is = inl is
refused_or p now (answer.TcpClose near far) q is = inl is
refused_or p now answer.Closed q is = inl is
refused_or p now answer.NoMemory q is = inr (refl, is)

module _ (p : Protocol) (now : ℕ) (ret : TurnPollRet) (q : Protocol) where
  -- No event and no reply is queued: the agent is polled.
  pub is_ticked : p.events ≡ [] → list_any is_answer p.queue ≡ false → IsPolledBy p.events p now ret q → IsAgentPolled p now ret q
  is_ticked silent unanswered is =
      let none : IsPolledBy [] p now ret q = subst (λ (l : List TurnEvent). IsPolledBy l p now ret q) silent is in
      where_false (Answers (answer.WaitUntil now) p ret q) (IsAgentPolled p now ret q) (list_any is_answer p.queue) unanswered none

  abbrev pub pause : ℕ
  pause = wait_to_send (pace_of p) p.last_send p.queue now (time_after now longest_pause)

-- While an event is queued, `poll` returns `WaitUntil` now.
pub holding_polled : (p : Protocol) (event : TurnEvent) (others : List TurnEvent) → p.events ≡ event ∷ others → (now : ℕ) (ret : TurnPollRet) (q : Protocol) → IsPolled p now ret q
    → (ret ≡ answer.WaitUntil now) × (q ≡ p)
holding_polled p event others waits now ret q polled = elim (refused_or p now ret q polled) [
  | inl by ↦ subst (λ (l : List TurnEvent). IsPolledBy l p now ret q) waits by
  | inr refused ↦ absurd (Prim.cc (sym waits ∙ refused.1.no_event))
]

-- ---- what comes

-- A success is a response, and no challenge.
pub successes_respond : (bytes : List ℕ) → class_of (kind_at bytes) ≡ Success → is_response bytes ≡ true
successes_respond bytes is = ap is_response_class is

pub no_challenge : (bytes : List ℕ) → class_of (kind_at bytes) ≡ Success → challenge_visible bytes ≡ None
no_challenge bytes is = ap (λ (c : MessageClass). if is_error c && is_challenge_code (code_visible bytes) then reported_of (claimed bytes) else None) is

-- A challenge is a response.
pub challenges_respond : (bytes : List ℕ) (reported : ChallengeFields) → challenge_visible bytes ≡ Some reported → is_response bytes ≡ true
challenges_respond bytes reported is = by (class_of (kind_at bytes)) is
  where
    by : (c : MessageClass) → (if is_error c && is_challenge_code (code_visible bytes) then reported_of (claimed bytes) else None) ≡ Some reported → is_response_class c ≡ true
    by Request none = absurd (Prim.cc none)
    by Indication none = absurd (Prim.cc none)
    by Success none = refl
    by Error some = refl

-- ---- the laws that are used

-- Texts are short if the user's name is, and stay so.
abbrev pub AreShort : Type 0
AreShort = (client : Client) → client.challenge ≡ None → client.next_account ≡ None → client.style ≡ plain_style → IfSome client.account (λ account. length account.username ≤ longest_username) → HasShortTexts client

abbrev pub StayShort : Type 0
StayShort = (old new : Client) (bytes : List ℕ) (result : Result LongTermClientValidation LongTermClientAuthError)
    → MatchResult result (λ answer. IsTaken old bytes answer new) (λ error. IsRejected old bytes error new) → HasShortTexts old → HasShortTexts new

-- Texts can be decoded if the user's name can, and stay so.
abbrev pub AreRead : Type 0
AreRead = (client : Client) → client.challenge ≡ None → client.next_account ≡ None → IfSome client.account (λ account. utf8_refusal account.username ≡ None) → HasReadTexts client

abbrev pub StayRead : Type 0
StayRead = (old new : Client) (bytes : List ℕ) (result : Result LongTermClientValidation LongTermClientAuthError)
    → MatchResult result (λ answer. IsTaken old bytes answer new) (λ error. IsRejected old bytes error new) → HasReadTexts old → HasReadTexts new

-- A request contains its transaction ID.
abbrev pub AreNumbered : Type 0
AreNumbered = (auth : Client) (request : TurnRequest) (number : ℕ) → HasShortTexts auth → IsLawfulRequest request → number < 2 ^ 96 → number_at (request_text auth request number) ≡ number

-- A request is a message of class request.
abbrev pub AreMessages : Type 0
AreMessages = (auth : Client) (request : TurnRequest) (number : ℕ) → HasShortTexts auth → IsLawfulRequest request → number < 2 ^ 96 → refusal (request_text auth request number) ≡ None

abbrev pub AreRequests : Type 0
AreRequests = (auth : Client) (request : TurnRequest) (number : ℕ) → is_request (request_text auth request number) ≡ true

-- A request decodes as what it asks for.
abbrev pub AreReported : Type 0
AreReported = (auth : Client) (request : TurnRequest) (number : ℕ) → HasShortTexts auth → IsLawfulRequest request → number < 2 ^ 96 → CanBeRead request number → decoded_by (request_text auth request number) ≡ reported_request request number

-- A signed request validates under the key in use.
abbrev pub AreValid : Type 0
AreValid = (auth : Client) (request : TurnRequest) (number : ℕ) (standing : Standing) → HasShortTexts auth → IsLawfulRequest request → number < 2 ^ 96 → is_signed request ≡ true
    → standing_of auth ≡ Some standing → IsRight (request_text auth request number) (standing_key standing)

-- A signed request claims what the challenge asks for.
abbrev pub AreClaims : Type 0
AreClaims = (auth : Client) (request : TurnRequest) (number : ℕ) (standing : Standing) → HasShortTexts auth → HasReadTexts auth → IsLawfulRequest request → number < 2 ^ 96 → is_signed request ≡ true
    → standing_of auth ≡ Some standing → claimed (request_text auth request number) ≡ own_claim auth.anonymous_username standing
