-- Requests that a client makes.
use Rattle.std.proofs.Common.{◌≡◌, ◌≢◌, ℕ, ◌+◌, ◌<◌, ◌≤◌, List, [], ◌∷◌, length, Option, Some, None, Result, refl, sym, ap, ◌∙◌, subst, arith, inl, inr}
use Rattle.std.specs.declared.net.socket_addr.SocketAddr.{SocketAddr}
use Rattle.turn_client_proto_timers.specs.StunTypesWire.Grammar.{number_at, refusal}
use Rattle.turn_client_proto_timers.specs.StunTypesWire.declared.class.MessageClass.TheVariants.{Request}
use Rattle.turn_client_proto_recv.specs.StunProtoClient.Client as signers
use Rattle.turn_client_proto_recv.specs.StunProtoClient.declared.error.LongTermClientAuthError.{LongTermClientAuthError}
use Rattle.turn_client_proto_recv.specs.StunProtoClient.declared.validation.LongTermClientValidation.{LongTermClientValidation}
use Rattle.turn_client_proto_timers.specs.StunProtoAgent.Handling.{after_message}
use Rattle.turn_client_proto_timers.specs.StunProtoAgent.Sending.{with_request}
use Rattle.turn_client_proto_timers.proofs.StunProtoAgent.Numbers.{handled_new}
use Rattle.turn_client_proto_recv.proofs.StunProtoClient.Stepping.{step_of}
use Rattle.turn_client_proto_recv.specs.TurnTypesAttributes.TurnRegistry.{connection_attempt_method}
use Rattle.turn_client_proto_timers.specs.TurnRuns.Members.{IsIn}
use Rattle.turn_client_proto_timers.specs.TurnRuns.Messages as run
use Rattle.turn_client_proto_timers.specs.TurnRuns.Steps.{AreNumbered, IsNumberAt, MayDraw}
use Rattle.turn_client_proto_timers.specs.TurnRuns.StunWire.{stun_wire, decoded_by}
use Rattle.turn_client_proto_timers.specs.Messages.Judging.{IsJudged}
use Rattle.turn_client_proto_timers.specs.Messages.Requests.{request_text}
use Rattle.turn_client_proto_timers.specs.Messages.ShortTexts.{HasShortTexts}
use Rattle.turn_client_proto_timers.specs.Messages.ReportedRequests.{CanBeRead, IsLawfulRequest, reported_request}
use Rattle.turn_client_proto_timers.specs.Messages.declared.request.TurnRequest.{TurnRequest}
use Rattle.turn_client_proto_timers.specs.Messages.declared.request.TurnRequest.TheVariants.{FirstAllocate}
use Rattle.turn_client_proto_timers.proofs.Messages.Reading.{message_law, number_law, reported_law}
use Rattle.turn_client_proto_timers.proofs.Messages.Short.{stay_short}
use Rattle.turn_client_proto_timers.specs.Core.Asking.{requested, requested_from, queued_request}
use Rattle.turn_client_proto_timers.specs.Drawing.{sent_at_once}
use Rattle.turn_client_proto_timers.specs.Core.Numbering.{IsNextNumber, after_draw, after_number}
use Rattle.turn_client_proto_timers.specs.Core.Responding.{accepted, answered, judged}
use Rattle.turn_client_proto_timers.specs.Core.declared.protocol.Protocol.{Protocol}
use Rattle.turn_client_proto_step_laws.specs.ClientWords.{challenge_of, client_words, realm_in}
use Rattle.turn_client_proto_step_laws.specs.RunClient.{Client, Parts, moved, parts_of}
use Rattle.turn_client_proto_step_laws.specs.RunSteps.{IsRunStep}
use Rattle.turn_client_proto_step_laws.specs.Sound.{AreSettings, BeforeAllocated, CanAsk, IsOrderly, stream_from}
use Rattle.turn_client_proto_step_laws.proofs.Adding.{Adds, adds_both, adds_none, agent_less, agent_more, queue_more, widened}
use Rattle.turn_client_proto_step_laws.proofs.Numbers.{IsAtIndex, number_at_index, number_small, words_after}
use Rattle.turn_client_proto_step_laws.proofs.Orderly.{IsAllocate, IsFree, agent_orderly, queue_orderly, request_orderly, until_all}
use Rattle.turn_client_proto_step_laws.proofs.Plain.{counts_one, notices, run_step}
use Rattle.turn_client_proto_step_laws.proofs.Realms.{TakesRealm, judged_realm}
use Rattle.turn_client_proto_step_laws.proofs.Taken.{free_by}

-- ---- a call under way

-- So far nothing was requested or gained; at most a response was handled or judged.
pub record IsUnderWay (c : Client) (came : List (List ℕ)) (mid : Protocol) : Type 0 where
  pub adds : Adds [] (parts_of c.core) (parts_of mid)
  pub orderly : IsOrderly (parts_of mid)
  pub can_ask : CanAsk (moved c c.transmitted mid)
  pub reported : notices mid.events ≡ notices c.core.events
  pub rng : mid.rng ≡ c.core.rng
  pub realms : TakesRealm came c.core mid

pub at_first : (c : Client) (came : List (List ℕ)) → IsOrderly (parts_of c.core) → CanAsk c → IsUnderWay c came c.core
at_first c came orderly can = record {
  adds = adds_none [] (parts_of c.core);
  orderly = orderly;
  can_ask = record { account = can.account; settled = can.settled; texts = can.texts; settings = can.settings; words = can.words };
  reported = refl;
  rng = refl;
  realms = λ realm is. inl is;
}

pub once_judged : (c : Client) (bytes : List ℕ) (verdict : Result LongTermClientValidation LongTermClientAuthError) (signer : signers.Client) → IsOrderly (parts_of c.core) → CanAsk c → IsJudged c.core.auth bytes verdict signer
    → IsUnderWay c (bytes ∷ []) (judged signer c.core)
once_judged c bytes verdict signer orderly can is = record {
  adds = adds_none [] (parts_of c.core);
  orderly = orderly;
  can_ask = record {
    account = (step_of c.core.auth signer bytes verdict is).account can.settled ∙ can.account;
    settled = (step_of c.core.auth signer bytes verdict is).next_account can.settled;
    texts = stay_short c.core.auth signer bytes verdict is can.texts;
    settings = can.settings;
    words = can.words;
  };
  reported = refl;
  rng = refl;
  realms = judged_realm c.core bytes verdict signer is;
}

pub once_answered : {came : List (List ℕ)} (c : Client) (mid : Protocol) (bytes : List ℕ) → IsUnderWay c came mid → IsUnderWay c came (answered bytes mid)
unfolding answered
once_answered c mid bytes is = record {
  adds = adds_both [] (parts_of c.core) (parts_of mid) _ is.adds (agent_less [] (parts_of mid) (after_message mid.agent bytes mid.server) (handled_new mid.agent bytes mid.server));
  orderly = agent_orderly (parts_of mid) (after_message mid.agent bytes mid.server) (handled_new mid.agent bytes mid.server) is.orderly;
  can_ask = record { account = is.can_ask.account; settled = is.can_ask.settled; texts = is.can_ask.texts; settings = is.can_ask.settings; words = is.can_ask.words };
  reported = is.reported;
  rng = is.rng;
  realms = is.realms;
}

pub once_accepted : {came : List (List ℕ)} (c : Client) (mid : Protocol) (bytes : List ℕ) → IsUnderWay c came mid → IsUnderWay c came (accepted bytes mid)
unfolding accepted
once_accepted c mid bytes is = record {
  adds = adds_both [] (parts_of c.core) (parts_of mid) _ is.adds (agent_less [] (parts_of mid) (after_message mid.agent bytes mid.server) (handled_new mid.agent bytes mid.server));
  orderly = agent_orderly (parts_of mid) (after_message mid.agent bytes mid.server) (handled_new mid.agent bytes mid.server) is.orderly;
  can_ask = record { account = is.can_ask.account; settled = is.can_ask.settled; texts = is.can_ask.texts; settings = is.can_ask.settings; words = is.can_ask.words };
  reported = is.reported;
  rng = is.rng;
  realms = is.realms;
}

-- ---- what a request says

reported_class : (request : TurnRequest) (number : ℕ) → (reported_request request number).class ≡ Request
reported_class (FirstAllocate transport families options) number = refl
reported_class _ number = refl

reported_method : (request : TurnRequest) (number : ℕ) → (reported_request request number).method ≢ connection_attempt_method
reported_method (FirstAllocate transport families options) number = λ e. omega (arith, e)
reported_method _ number = λ e. omega (arith, e)

-- A request is written with the next transaction ID, and decodes to what was written.
pub record IsMade (mid : Protocol) (request : TurnRequest) (number : ℕ) : Type 0 where
  pub is_next : IsNextNumber mid number
  pub message : refusal (request_text mid.auth request number) ≡ None
  pub number_is : number_at (request_text mid.auth request number) ≡ number
  pub reported : decoded_by (request_text mid.auth request number) ≡ reported_request request number

pub made : {came : List (List ℕ)} (c : Client) (mid : Protocol) (request : TurnRequest) (number : ℕ) → IsUnderWay c came mid → IsLawfulRequest request → CanBeRead request number → IsNextNumber mid number → IsMade mid request number
made c mid request number is lawful read next =
    let texts : HasShortTexts mid.auth = is.can_ask.texts in
    let small = number_small mid number next in
    record {
      is_next = next;
      message = message_law mid.auth request number texts lawful small;
      number_is = number_law mid.auth request number texts lawful small;
      reported = reported_law mid.auth request number texts lawful small read;
    }

-- No allocation awaits this transaction ID.
pub free : (mid : Protocol) (request : TurnRequest) (number : ℕ) → IsMade mid request number → IsFree (parts_of mid) (number_at (request_text mid.auth request number))
free mid request number is = subst (λ (n : ℕ). IsFree (parts_of mid) n) (sym is.number_is) (free_by mid number is.is_next.free)

module _ {came : List (List ℕ)} (c : Client) (mid : Protocol) (request : TurnRequest) (number : ℕ) (under_way : IsUnderWay c came mid) (is : IsMade mid request number) where
  abbrev text : List ℕ
  text = request_text mid.auth request number

  requests : (x : run.Message) → IsIn x (decoded_by text ∷ []) → (x.class ≡ Request) × (x.method ≢ connection_attempt_method)
  requests x h = elim h [
    | inl own ↦
        let reported : x ≡ reported_request request number = sym own ∙ is.reported in
        (ap (λ (m : run.Message). m.class) reported ∙ reported_class request number, λ e. reported_method request number (sym (ap (λ (m : run.Message). m.method) reported) ∙ e))
    | inr none ↦ absurd none
  ]

  at_index : IsAtIndex mid c.seed c.transmitted number → IsNumberAt client_words c [] c.transmitted number
  at_index (inl here) = inl here
  at_index (inr taken) = elim (under_way.adds.taken _ taken) [ inl was ↦ inr (inl was) | inr now ↦ absurd now.listed ]

  numbered : AreNumbered client_words c [] c.transmitted (c.transmitted + 1) (decoded_by text ∷ [])
  numbered =
      let from : c.transmitted ≤ c.transmitted = omega arith in
      let below : c.transmitted < c.transmitted + 1 = omega arith in
      let to : c.transmitted + 1 ≤ c.transmitted + 1 = omega arith in
      let here : IsNumberAt client_words c [] c.transmitted number = at_index (number_at_index mid c.seed c.transmitted number under_way.can_ask.words is.is_next) in
      (c.transmitted, from, below, subst (λ (n : ℕ). IsNumberAt client_words c [] c.transmitted n) (sym is.number_is) here, to)

  -- The client that has made the request.
  pub asks : (generated : Option (List ℕ)) (core : Protocol) → Adds (decoded_by text ∷ []) (parts_of mid) (parts_of core) → IsOrderly (parts_of core)
      → core.auth ≡ mid.auth → ((realm : List ℕ) → realm_in (challenge_of core) ≡ Some realm → realm_in (challenge_of mid) ≡ Some realm) → AreSettings c.offers core → core.rng ≡ after_draw mid.rng → notices core.events ≡ notices mid.events
      → ((bytes : List ℕ) (m : run.Message) → generated ≡ Some bytes → stun_wire.visible bytes ≡ Some m → MayDraw client_words c (decoded_by text ∷ []) m)
      → IsRunStep c came generated [] core
  asks generated core adds orderly same_auth same_realm settings rng reported draws =
      run_step (decoded_by text ∷ []) came generated [] c (c.transmitted + 1) core (record {
        requests = requests;
        counts = counts_one c core (rng ∙ ap after_draw under_way.rng);
        realms = λ realm is. under_way.realms realm (same_realm realm is);
        numbered = numbered;
        adds = adds_both (decoded_by text ∷ []) (parts_of c.core) (parts_of mid) (parts_of core) (widened (decoded_by text ∷ []) (parts_of c.core) (parts_of mid) under_way.adds) adds;
        draws = draws;
        reported = reported ∙ under_way.reported;
      }) orderly (until_all core.phase (record {
        account = ap (λ (a : signers.Client). a.account) same_auth ∙ under_way.can_ask.account;
        settled = ap (λ (a : signers.Client). a.next_account) same_auth ∙ under_way.can_ask.settled;
        texts = subst HasShortTexts (sym same_auth) under_way.can_ask.texts;
        settings = settings;
        words = ap stream_from rng ∙ words_after mid.rng c.transmitted c.seed under_way.can_ask.words;
      }))

-- ---- a request that is outstanding, and waits

-- The request is sent from any address.
pub requested_from_adds : (from : SocketAddr) (mid : Protocol) (request : TurnRequest) (number now : ℕ)
    → Adds (decoded_by (request_text mid.auth request number) ∷ []) (parts_of mid) (parts_of (requested_from from (after_number mid) request number now))
requested_from_adds from mid request number now =
    let text = request_text mid.auth request number in
    let sent : Parts = record (parts_of mid) { agent = with_request mid.agent text mid.server now } in
    adds_both (decoded_by text ∷ []) (parts_of mid) sent _ (agent_more (parts_of mid) text mid.server now) (queue_more sent (queued_request from text) refl)

pub requested_adds : (mid : Protocol) (request : TurnRequest) (number now : ℕ) → Adds (decoded_by (request_text mid.auth request number) ∷ []) (parts_of mid) (parts_of (requested (after_number mid) request number now))
unfolding requested
requested_adds mid request number now = requested_from_adds mid.agent.here mid request number now

pub requested_from_orderly : (from : SocketAddr) (mid : Protocol) (request : TurnRequest) (number now : ℕ) → IsMade mid request number → BeforeAllocated mid.phase (IsAllocate (parts_of mid) (request_text mid.auth request number))
    → IsOrderly (parts_of mid) → IsOrderly (parts_of (requested_from from (after_number mid) request number now))
requested_from_orderly from mid request number now is allocates orderly =
    let text = request_text mid.auth request number in
    let sent : Parts = record (parts_of mid) { agent = with_request mid.agent text mid.server now } in
    queue_orderly sent (queued_request from text) (inl refl) (request_orderly (parts_of mid) text mid.server now is.message (free mid request number is) allocates orderly)

pub requested_orderly : (mid : Protocol) (request : TurnRequest) (number now : ℕ) → IsMade mid request number → BeforeAllocated mid.phase (IsAllocate (parts_of mid) (request_text mid.auth request number)) → IsOrderly (parts_of mid)
    → IsOrderly (parts_of (requested (after_number mid) request number now))
unfolding requested
requested_orderly mid request number now is allocates orderly = requested_from_orderly mid.agent.here mid request number now is allocates orderly

-- ---- a request that is outstanding, and sent at once

pub sent_adds : (mid : Protocol) (request : TurnRequest) (number now : ℕ) → Adds (decoded_by (request_text mid.auth request number) ∷ []) (parts_of mid) (parts_of (sent_at_once (after_number mid) request number now))
unfolding sent_at_once
sent_adds mid request number now = agent_more (parts_of mid) (request_text mid.auth request number) mid.server now

pub sent_orderly : (mid : Protocol) (request : TurnRequest) (number now : ℕ) → IsMade mid request number → BeforeAllocated mid.phase (IsAllocate (parts_of mid) (request_text mid.auth request number)) → IsOrderly (parts_of mid)
    → IsOrderly (parts_of (sent_at_once (after_number mid) request number now))
unfolding sent_at_once
sent_orderly mid request number now is allocates orderly = request_orderly (parts_of mid) (request_text mid.auth request number) mid.server now is.message (free mid request number is) allocates orderly
