-- What a client that signed does with the success response to its request, by the contract of
-- `handle_message` alone.
use Rattle.std.proofs.Common.{inl, inr, ◌≡◌, ℕ, ◌++◌, map as map_list, Bool, true, false, List, [], ◌∷◌, Option, Some, None, refl, sym, ap, ◌∙◌, subst}
use Rattle.std.specs.Prelude.{◌==◌, ◌&&◌, ◌||◌, Result, Ok, Err, is_some, if◌then◌else◌}
use Rattle.std.specs.FinMap as map
use Rattle.std.specs.declared.net.socket_addr.SocketAddr.{SocketAddr}
use Rattle.std.specs.declared.net.socket_addr.SocketAddr.TheVariants as socket
use Rattle.std.proofs.lemmas.Bool.{eq-eqb}
use Rattle.turn_client_proto_api.specs.StunTypesWire.Attributes.{kind_at}
use Rattle.stun_types_base.specs.Family.{family_of_socket}
use Rattle.turn_client_proto_api.specs.StunTypesWire.Grammar.{number_at}
use Rattle.turn_client_proto_api.specs.StunTypesWire.declared.algorithm.IntegrityAlgorithm.{IntegrityAlgorithm}
use Rattle.turn_client_proto_api.specs.StunTypesWire.declared.class.MessageClass.{MessageClass}
use Rattle.turn_client_proto_api.specs.StunTypesWire.declared.class.MessageClass.TheVariants.{Success}
use Rattle.turn_client_proto_api.specs.StunTypesWire.Types.{class_of, is_response_class}
use Rattle.stun_types_base.specs.declared.family.AddressFamily.{AddressFamily}
use Rattle.stun_types_base.specs.declared.transport.TransportType.{TransportType}
use Rattle.turn_client_proto_messages.specs.StunProtoClient.Challenges.{challenge_visible, is_challenge_code, is_error, reported_of}
use Rattle.turn_client_proto_api.specs.StunProtoAuth.Claims.{claimed, code_visible}
use Rattle.turn_client_proto_messages.specs.StunProtoClient.Client as auth
use Rattle.turn_client_proto_messages.specs.StunProtoClient.declared.error.LongTermClientAuthError.{LongTermClientAuthError}
use Rattle.turn_client_proto_messages.specs.StunProtoClient.ClientSteps.{accepted_by}
use Rattle.turn_client_proto_messages.specs.StunProtoClient.ClientValidation.{going_by}
use Rattle.turn_client_proto_messages.specs.StunProtoClient.declared.validation.LongTermClientValidation.{LongTermClientValidation}
use Rattle.turn_client_proto_messages.specs.StunProtoClient.declared.validation.LongTermClientValidation.TheVariants.{ResendRequest, Validated}
use Rattle.turn_client_proto_api.specs.StunProtoAgent.Handling.{after_message, answered as answered_by, is_awaited, is_response}
use Rattle.turn_client_proto_api.specs.StunProtoAgent.State as agents
use Rattle.turn_client_proto_messages.proofs.StunProtoClient.Stepping.{right_is_accepted}
use Rattle.turn_client_proto_messages.specs.Allocation.Awaited.{has_number}
use Rattle.turn_client_proto_messages.specs.Allocation.Listed.{relayed_listed}
use Rattle.turn_client_proto_messages.specs.Allocation.Refreshing.{granted}
use Rattle.turn_client_proto_messages.specs.Allocation.declared.allocation.Allocation.{Allocation}
use Rattle.turn_client_proto_api.specs.declared.event.TurnEvent.{TurnEvent}
use Rattle.turn_client_proto_api.specs.declared.event.TurnEvent.TheVariants.{AllocationCreated, AllocationCreateFailed}
use Rattle.turn_client_proto_core.proofs.Awaiting.{processed_awaited}
use Rattle.turn_client_proto_core.specs.Allocating.{IsAllocated, IsAllocatedFor, allocated, brought, phase_by}
use Rattle.turn_client_proto_core.specs.Authenticating.{IsAccepted, IsAllocateAnswered, IsSignedJudged}
use Rattle.turn_client_proto_core.specs.Outcomes.{IsHandled, IsIgnored}
use Rattle.turn_client_proto_core.specs.Receiving.{IsFollowed, IsProcessed, IsProcessedIn}
use Rattle.turn_client_proto_core.specs.Responding.{accepted, judged}
use Rattle.turn_client_proto_messages.specs.Waiting.{Queued}
use Rattle.turn_client_proto_core.specs.declared.protocol.Phase.{Phase}
use Rattle.turn_client_proto_core.specs.declared.protocol.Phase.TheVariants.{Authenticating}
use Rattle.turn_client_proto_core.specs.declared.protocol.Protocol.{Protocol}
use Rattle.turn_client_proto_messages.specs.Judging.{IsJudged}
use Rattle.turn_client_proto_messages.specs.Granting.{allocations_of, families_without}
use Rattle.turn_client_proto_messages.specs.Reporting.{created}
use Rattle.turn_client_proto_messages.specs.Reported.{relayed_reported}
use Rattle.turn_client_proto_handshake_laws.specs.Choosing.{Choice, signed_requested, signer_by, standing_by}
use Rattle.turn_client_proto_handshake_laws.specs.Stages.{AsksForOne, Holds, IsGrant, IsSigning, created as created_reported}
use Rattle.turn_client_proto_handshake_laws.proofs.Only.{none_left, where_true}
use Rattle.turn_client_proto_handshake_laws.proofs.Polls.{refused_or}
use Rattle.turn_client_proto_api.specs.declared.answer.TurnPollRet.{TurnPollRet}
use Rattle.turn_client_proto_api.specs.declared.answer.TurnPollRet.TheVariants as answer
use Rattle.turn_client_proto_timers.specs.Polling.{IsPolled, IsPolledBy}
use Rattle.turn_client_proto_handshake_laws.specs.Sent.{Beginning, first_number}

-- A success is a response, and no challenge.
pub successes_respond : (bytes : List ℕ) → class_of (kind_at bytes) ≡ Success → is_response bytes ≡ true
successes_respond bytes is = ap is_response_class is

pub no_challenge : (bytes : List ℕ) → class_of (kind_at bytes) ≡ Success → challenge_visible bytes ≡ None
no_challenge bytes is = ap (λ (c : MessageClass). if is_error c && is_challenge_code (code_visible bytes) then reported_of (claimed bytes) else None) is

-- ---- one address of one family

-- The address gives exactly one allocation.
one_brought : (address : SocketAddr) (transport : TransportType) (lifetime now : ℕ) → allocations_of (family_of_socket address ∷ []) transport lifetime now (address ∷ []) ≡ granted transport address lifetime now ∷ []
one_brought (socket.V4 a) transport lifetime now = refl
one_brought (socket.V6 a) transport lifetime now = refl

-- No family is without an address.
none_without : (address : SocketAddr) (transport : TransportType) (lifetime now : ℕ) → families_without (family_of_socket address ∷ []) (granted transport address lifetime now ∷ []) ≡ []
none_without (socket.V4 a) transport lifetime now = refl
none_without (socket.V6 a) transport lifetime now = refl

module _ (b : Beginning) (c : Choice) (many last : ℕ) (queue : List Queued) (p : Protocol) (w : IsSigning b c many last queue p) (address : SocketAddr) (lifetime : ℕ) (bytes : List ℕ)
    (is : IsGrant b c address lifetime bytes) (now : ℕ) (handled : Bool) (q : Protocol) where
  awaited : is_awaited p.agent bytes ≡ true
  awaited = ap (λ (n : ℕ). is_some (map.get p.agent.outstanding n)) is.number ∙ ap is_some w.requested.there

  responds : is_response bytes ≡ true
  responds = successes_respond bytes is.success

  occurs : auth.standing_of p.auth ≡ Some (standing_by b c)
  occurs = ap auth.standing_of w.auth

  -- The response was accepted.
  pub record HasAllocated : Type 0 where
    pub client : auth.Client
    pub client_is : client ≡ going_by (signer_by b c) (Some c.algorithm)
    pub is_handled : handled ≡ true
    pub after : q ≡ allocated (brought (accepted bytes (judged client p)) bytes lifetime now) (accepted bytes (judged client p))

  taken : (client : auth.Client) → client ≡ going_by (signer_by b c) (Some c.algorithm) → IsAccepted (judged client p) bytes now handled q → HasAllocated
  taken client client_is out =
      let k = judged client p in
      let a = where_true (IsAllocateAnswered (class_of (kind_at bytes)) (accepted bytes k) bytes now handled q) (IsHandled k handled q) (is_awaited p.agent bytes) awaited out in
      let d : IsAllocated (accepted bytes k) bytes now handled q = subst (λ (m : MessageClass). IsAllocateAnswered m (accepted bytes k) bytes now handled q) is.success a in
      let e : IsHandled (allocated (brought (accepted bytes k) bytes lifetime now) (accepted bytes k)) handled q = subst (λ (l : Option ℕ). IsAllocatedFor l (accepted bytes k) bytes now handled q) is.lifetime_is d in
      record { client = client; client_is = client_is; is_handled = e.0; after = e.1 }

  accepted_so : (verdict : Result LongTermClientValidation LongTermClientAuthError) (client : auth.Client) → IsJudged p.auth bytes verdict client → accepted_by verdict ≡ Some c.algorithm
  accepted_so verdict client j = right_is_accepted p.auth client bytes (standing_by b c) verdict j (no_challenge bytes is.success) occurs is.right

  by_verdict : (verdict : Result LongTermClientValidation LongTermClientAuthError) (client : auth.Client) → IsJudged p.auth bytes verdict client → IsSignedJudged verdict (judged client p) bytes now handled q → HasAllocated
  by_verdict (Ok (ResendRequest choice)) client j out = absurd (Prim.cc (accepted_so (Ok (ResendRequest choice)) client j))
  by_verdict (Ok (Validated algorithm)) client j out =
      let same : Some algorithm ≡ Some c.algorithm = accepted_so (Ok (Validated algorithm)) client j in
      taken client (j.stored ∙ (ap (λ (a : Option IntegrityAlgorithm). going_by p.auth a) same ∙ ap (λ (x : auth.Client). going_by x (Some c.algorithm)) w.auth)) out
  by_verdict (Err error) client j out = absurd (Prim.cc (accepted_so (Err error) client j))

  pub success_processed : IsProcessed p bytes now handled q → HasAllocated
  success_processed processed =
      let numbers = first_number b ∷ c.number ∷ [] in
      let in_phase : IsProcessedIn (Authenticating (first_number b ∷ c.number ∷ [])) p bytes now handled q = subst (λ (f : Phase). IsProcessedIn f p bytes now handled q) w.phase (processed_awaited p bytes now handled q awaited processed) in
      let among : has_number (number_at bytes) numbers ≡ true =
      ap (λ (n : ℕ). has_number n numbers) is.number ∙ (ap (λ (x : Bool). (first_number b == c.number) || (x || false)) (eq-eqb c.number c.number refl) ∙ any (first_number b == c.number)) in
      let both : (is_response bytes && has_number (number_at bytes) numbers) ≡ true = ap (λ (x : Bool). x && has_number (number_at bytes) numbers) responds ∙ among in
      let f = where_true (IsFollowed IsSignedJudged p bytes now handled q) (IsIgnored p handled q) (is_response bytes && has_number (number_at bytes) numbers) both in_phase in
      by_verdict f.verdict f.auth f.is_judged f.outcome
    where
      any : (x : Bool) → (x || (true || false)) ≡ true
      any true = refl
      any false = refl

  -- ---- what is held

  module _ (h : HasAllocated) (one : AsksForOne b address) where
    agent_after : after_message p.agent bytes p.server ≡ answered_by p.agent bytes p.server
    agent_after = ap (λ (x : Bool). if x then answered_by p.agent bytes p.server else p.agent) (ap (λ (x : Bool). x && is_awaited p.agent bytes) responds ∙ awaited)

    families_are : p.families ≡ family_of_socket address ∷ []
    families_are = w.settings.families ∙ one

    abbrev all : List Allocation
    all = allocations_of p.families p.allocates lifetime now (relayed_reported bytes)

    all_is : all ≡ granted b.config.transport address lifetime now ∷ []
    all_is =
        ap (λ (l : List AddressFamily). allocations_of l p.allocates lifetime now (relayed_reported bytes)) families_are
        ∙ (ap (λ (t : TransportType). allocations_of (family_of_socket address ∷ []) t lifetime now (relayed_reported bytes)) w.settings.allocates
        ∙ (ap (λ (l : List SocketAddr). allocations_of (family_of_socket address ∷ []) b.config.transport lifetime now l) is.relayed
        ∙ one_brought address b.config.transport lifetime now))

    without_is : families_without p.families all ≡ []
    without_is =
        ap (λ (l : List AddressFamily). families_without l all) families_are
        ∙ (ap (λ (l : List Allocation). families_without (family_of_socket address ∷ []) l) all_is
        ∙ none_without address b.config.transport lifetime now)

    events_are : (p.events ++ map_list created all) ++ map_list AllocationCreateFailed (families_without p.families all) ≡ AllocationCreated b.config.transport address ∷ []
    events_are =
        ap (λ (l : List TurnEvent). (l ++ map_list created all) ++ map_list AllocationCreateFailed (families_without p.families all)) w.events
        ∙ (ap (λ (l : List AddressFamily). map_list created all ++ map_list AllocationCreateFailed l) without_is
        ∙ ap (λ (l : List Allocation). map_list created l ++ []) all_is)

    -- The client that holds the allocation.
    holds_after : Holds b c address lifetime now last queue (created_reported b address) (record p {
      auth = h.client;
      agent = answered_by p.agent bytes p.server;
      phase = phase_by all;
      allocations = all;
      events = (p.events ++ map_list created all) ++ map_list AllocationCreateFailed (families_without p.families all);
      resends = 0;
    })
    holds_after = record {
      settings = record {
        server = w.settings.server;
        remote = w.settings.remote;
        transport = w.settings.transport;
        here = w.settings.here;
        waits = w.settings.waits;
        allocates = w.settings.allocates;
        families = w.settings.families;
        options = w.settings.options;
        pace = w.settings.pace;
        indications = w.settings.indications;
        usual = w.settings.usual;
      };
      none_requested = λ number. ap (λ (n : ℕ). map.get (map.remove p.agent.outstanding n) number) is.number ∙ none_left b (signed_requested b c) many p w.settings w.requested number;
      phase = ap phase_by all_is;
      auth = h.client_is;
      allocations = all_is;
      visible = ap relayed_listed all_is;
      queue_is = w.queue_is;
      last_send = w.last_send;
      events_are = events_are;
      closing = w.closing;
      resends = refl;
    }

    pub holds : Holds b c address lifetime now last queue (created_reported b address) q
    unfolding allocated accepted
    holds = subst (λ (x : Protocol). Holds b c address lifetime now last queue (created_reported b address) x)
        (sym (h.after ∙ ap (λ (y : agents.Agent). allocated (brought (record p { auth = h.client; agent = y; resends = 0 }) bytes lifetime now) (record p { auth = h.client; agent = y; resends = 0 })) agent_after)) holds_after

-- While an event is queued, `poll` returns `WaitUntil` now.
pub holding_polled : (p : Protocol) (event : TurnEvent) (others : List TurnEvent) → p.events ≡ event ∷ others → (now : ℕ) (ret : TurnPollRet) (q : Protocol) → IsPolled p now ret q
    → (ret ≡ answer.WaitUntil now) × (q ≡ p)
holding_polled p event others waits now ret q polled = elim (refused_or p now ret q polled) [
  | inl by ↦ subst (λ (l : List TurnEvent). IsPolledBy l p now ret q) waits by
  | inr refused ↦ absurd (Prim.cc (sym waits ∙ refused.1.no_event))
]
