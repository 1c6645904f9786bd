-- What a client does with the success response to its REFRESH, also after earlier ones were challenged, by the
-- contract of `handle_message` alone.
use Rattle.std.proofs.Common.{◌≡◌, ℕ, ◌≤◌, Bool, true, false, List, [], ◌∷◌, ◌++◌, Option, Some, None, refl, sym, ap, ◌∙◌, subst, map as map_list}
use Rattle.std.specs.Prelude.{◌==◌, ◌&&◌, ◌||◌, Result, Ok, Err, is_some, if◌then◌else◌}
use Rattle.std.specs.Bool.{MatchBool}
use Rattle.std.specs.FinMap as map
use Rattle.std.specs.List.{list_any}
use Rattle.std.specs.declared.net.socket_addr.SocketAddr.{SocketAddr}
use Rattle.std.proofs.lemmas.Bool.{eq-eqb, le-leb}
use Rattle.turn_client_proto_messages.specs.StunTypesWire.Attributes.{kind_at}
use Rattle.turn_client_proto_messages.specs.StunTypesWire.Grammar.{number_at}
use Rattle.turn_client_proto_messages.specs.StunTypesWire.declared.algorithm.IntegrityAlgorithm.{IntegrityAlgorithm}
use Rattle.turn_client_proto_messages.specs.StunTypesWire.declared.class.MessageClass.{MessageClass}
use Rattle.turn_client_proto_messages.specs.StunTypesWire.Registry.{allocation_mismatch_code}
use Rattle.turn_client_proto_messages.specs.StunTypesWire.Types.{class_of, is_response_class, method_of}
use Rattle.turn_client_proto_messages.specs.StunProtoClient.Challenges.{challenge_visible, is_challenge_code, is_error, reported_of}
use Rattle.turn_client_proto_messages.specs.StunProtoAuth.Claims.{claimed, code_visible}
use Rattle.turn_client_proto_messages.specs.StunProtoClient.Client as auth
use Rattle.turn_client_proto_messages.specs.StunProtoClient.declared.error.LongTermClientAuthError.{LongTermClientAuthError}
use Rattle.turn_client_proto_messages.specs.StunProtoClient.ClientSteps.{accepted_by}
use Rattle.turn_client_proto_messages.specs.StunProtoClient.ClientValidation.{going_by}
use Rattle.turn_client_proto_messages.specs.StunProtoClient.declared.validation.LongTermClientValidation.{LongTermClientValidation}
use Rattle.turn_client_proto_messages.specs.StunProtoClient.declared.validation.LongTermClientValidation.TheVariants.{ResendRequest, Validated}
use Rattle.turn_client_proto_messages.specs.StunProtoAgent.Handling.{after_message, answered as answered_by, is_awaited, is_response}
use Rattle.turn_client_proto_messages.specs.StunProtoAgent.State as agents
use Rattle.turn_client_proto_messages.proofs.StunProtoClient.Stepping.{right_is_accepted}
use Rattle.turn_client_proto_messages.specs.TurnTypesAttributes.TurnRegistry.{refresh_method}
use Rattle.turn_client_proto_handshake_laws.specs.Core.Attempting.{IsAttemptTaken, IsIndicationTaken}
use Rattle.turn_client_proto_handshake_laws.specs.Core.Binding.{IsBindResponded}
use Rattle.turn_client_proto_handshake_laws.specs.Core.Outcomes.{IsHandled, IsIgnored}
use Rattle.turn_client_proto_handshake_laws.specs.Core.Permitting.{IsPermissionResponded}
use Rattle.turn_client_proto_core.proofs.Awaiting.{processed_awaited}
use Rattle.turn_client_proto_handshake_laws.specs.Core.Receiving.{IsFollowed, IsProcessed, IsProcessedIn}
use Rattle.turn_client_proto_messages.specs.TurnRuns.Indications.{is_indication}
use Rattle.turn_client_proto_handshake_laws.specs.Core.Responding.{accepted, is_error_class, judged}
use Rattle.turn_client_proto_messages.specs.Reported.{first_code, is_code, lifetime_reported}
use Rattle.turn_client_proto_handshake_laws.specs.Core.Standing.{IsConnectResponded, IsJudgedStanding, IsRequestAnswered, IsTakenUp, after_refresh, deallocated, is_refreshed, refreshed}
use Rattle.turn_client_proto_handshake_laws.specs.Core.declared.protocol.Phase.{Phase}
use Rattle.turn_client_proto_handshake_laws.specs.Core.declared.protocol.Protocol.{Protocol}
use Rattle.turn_client_proto_messages.specs.TurnTypesAttributes.TurnRegistry.{channel_bind_method, connect_method, create_permission_method}
use Rattle.turn_client_proto_messages.specs.Allocation.Refreshing.{ends_by, is_end, least_lifetime, least_of, lifetime_requested, margin_of, renewed, renewed_by}
use Rattle.turn_client_proto_messages.specs.Allocation.declared.allocation.Allocation.{Allocation}
use Rattle.turn_client_proto_messages.specs.Waiting.{Queued}
use Rattle.turn_client_proto_messages.specs.Api.declared.event.TurnEvent.{TurnEvent}
use Rattle.turn_client_proto_handshake_laws.specs.Choosing.{Choice, standing_by}
use Rattle.turn_client_proto_messages.specs.Judging.{IsJudged}
use Rattle.turn_client_proto_messages.specs.Api.Options.{allocation_lifetime}
use Rattle.turn_client_proto_handshake_laws.specs.Sent.{Beginning}
use Rattle.turn_client_proto_progress_laws.specs.Keeping.{IsKeeping, Term, held_for, next_term}
use Rattle.turn_client_proto_progress_laws.specs.Refreshed.{IsRenewal, signed_by}
use Rattle.turn_client_proto_progress_laws.proofs.Renewing.Tools.{least_enough, margin_stays, none_left, where_false, where_true}
use Rattle.turn_desk_laws.specs.RefreshStages.{IsRefreshingOn, request_made_by}
use Rattle.turn_desk_laws.proofs.RefreshHeld.{lifetime_found}

module _ (b : Beginning) (c : Choice) (address : SocketAddr) (t : Term) (earlier : List ℕ) (number made many last : ℕ) (queue : List Queued) (events : List TurnEvent) (p : Protocol) (w : IsRefreshingOn b c address t earlier number made many last queue events p)
    (lifetime : ℕ) (bytes : List ℕ) (is : IsRenewal b c number lifetime bytes) (enough : least_lifetime ≤ lifetime) (now : ℕ) (handled : Bool) (q : Protocol) where
  responds : is_response bytes ≡ true
  responds = ap is_response_class is.success

  awaited : is_awaited p.agent bytes ≡ true
  awaited = ap (λ (n : ℕ). is_some (map.get p.agent.outstanding n)) is.number_is ∙ ap is_some w.requested.there

  both : (is_response bytes && is_awaited p.agent bytes) ≡ true
  both = ap (λ (x : Bool). x && is_awaited p.agent bytes) responds ∙ awaited

  no_challenge : challenge_visible bytes ≡ None
  no_challenge = ap (λ (k : MessageClass). if is_error k && is_challenge_code (code_visible bytes) then reported_of (claimed bytes) else None) is.success

  occurs : auth.standing_of p.auth ≡ Some (standing_by b c)
  occurs = ap auth.standing_of w.auth

  -- ---- the allocation

  abbrev pending : Allocation
  pending = held_for b address t (request_made_by (earlier ++ number ∷ []))

  abbrev stored : Allocation
  stored = held_for b address (next_term t lifetime now) []

  its_own : lifetime_requested (number_at bytes) (request_made_by (earlier ++ number ∷ [])) ≡ Some allocation_lifetime
  its_own = lifetime_found earlier number (number_at bytes) is.number_is

  not_ended : ends_by (number_at bytes) pending ≡ false
  unfolding ends_by
  not_ended = ap is_end its_own

  renewed_so : (short : Bool) → renewed (least_of short) (number_at bytes) now (Some lifetime) pending ≡ stored
  unfolding renewed
  renewed_so short =
      ap (λ (o : Option ℕ). renewed_by (least_of short) now (Some lifetime) o pending) its_own
      ∙ (ap (λ (x : Bool). if x then record stored { renewal_lifetime = margin_of t.first lifetime } else pending) (le-leb (least_of short) lifetime (least_enough short lifetime enough))
      ∙ ap (λ (n : ℕ). record stored { renewal_lifetime = n }) (margin_stays t.first lifetime enough))

  after : (k : Protocol) → k.allocations ≡ pending ∷ [] → after_refresh bytes now k ≡ record k { allocations = stored ∷ [] }
  unfolding after_refresh refreshed
  after k same =
      let ok : is_refreshed bytes ≡ true = ap (λ (m : MessageClass). if is_error_class m then is_code allocation_mismatch_code (first_code bytes) else true) is.success in
      ap (λ (x : Bool). if x then refreshed bytes now k else k) ok
      ∙ (ap (λ (l : List Allocation). if list_any (ends_by (number_at bytes)) l then deallocated k else record k { allocations = map_list (renewed (least_of k.short_lifetimes) (number_at bytes) now (lifetime_reported bytes)) l }) same
      ∙ (ap (λ (x : Bool). if x || false then deallocated k else record k { allocations = renewed (least_of k.short_lifetimes) (number_at bytes) now (lifetime_reported bytes) pending ∷ [] }) not_ended
      ∙ (ap (λ (o : Option ℕ). record k { allocations = renewed (least_of k.short_lifetimes) (number_at bytes) now o pending ∷ [] }) is.lifetime_is
      ∙ ap (λ (x : Allocation). record k { allocations = x ∷ [] }) (renewed_so k.short_lifetimes))))

  -- ---- the client

  abbrev Keeps : Protocol → Type 0
  Keeps x = IsKeeping b c address (next_term t lifetime now) last queue events x

  keeps : (client : auth.Client) → client ≡ signed_by b c → Keeps (record p { auth = client; agent = answered_by p.agent bytes p.server; resends = 0; allocations = stored ∷ [] })
  keeps client client_is = record {
    settings = record {
      server = w.settings.server;
      remote = w.settings.remote;
      transport = w.settings.transport;
      here = w.settings.here;
      waits = w.settings.waits;
      allocates = w.settings.allocates;
      families = w.settings.families;
      options = w.settings.options;
      pace = w.settings.pace;
      indications = w.settings.indications;
      usual = w.settings.usual;
    };
    none_requested = none_left p.agent.outstanding (number_at bytes) (λ other x there. w.requested.only other x there ∙ sym is.number_is);
    phase = w.phase;
    auth = client_is;
    allocations = refl;
    queue_is = w.queue_is;
    last_send = w.last_send;
    events_are = w.events_are;
    closing = w.closing;
    resends = refl;
  }

  taken : (client : auth.Client) → client ≡ signed_by b c → IsTakenUp (judged client p) bytes now handled q → (handled ≡ true) × Keeps q
  unfolding accepted
  taken client client_is out =
      let k = accepted bytes (judged client p) in
      let one = where_true (IsRequestAnswered k bytes now handled q) (IsAttemptTaken (judged client p) bytes handled q) (is_response bytes && is_awaited p.agent bytes) both out in
      let two = where_true (IsHandled (after_refresh bytes now k) handled q)
      (MatchBool (method_of (kind_at bytes) == create_permission_method)
      (IsPermissionResponded k bytes now handled q)
      (MatchBool (method_of (kind_at bytes) == channel_bind_method)
      (IsBindResponded k bytes now handled q)
      (MatchBool (method_of (kind_at bytes) == connect_method)
      (IsConnectResponded k bytes handled q)
      (IsIgnored k handled q)))) (method_of (kind_at bytes) == refresh_method) (eq-eqb (method_of (kind_at bytes)) refresh_method is.method) one in
      let agent_is : after_message p.agent bytes p.server ≡ answered_by p.agent bytes p.server = ap (λ (x : Bool). if x then answered_by p.agent bytes p.server else p.agent) both in (
        two.0,
        subst (λ (x : Protocol). Keeps x) (sym (two.1 ∙ after k w.allocations))
            (subst (λ (g : agents.Agent). Keeps (record p { auth = client; agent = g; resends = 0; allocations = stored ∷ [] })) (sym agent_is) (keeps client client_is)),
      )

  accepted_so : (verdict : Result LongTermClientValidation LongTermClientAuthError) (client : auth.Client) → IsJudged p.auth bytes verdict client → accepted_by verdict ≡ Some c.algorithm
  accepted_so verdict client j = right_is_accepted p.auth client bytes (standing_by b c) verdict j no_challenge occurs is.right

  by_verdict : (verdict : Result LongTermClientValidation LongTermClientAuthError) (client : auth.Client) → IsJudged p.auth bytes verdict client → IsJudgedStanding verdict (judged client p) bytes now handled q → (handled ≡ true) × Keeps q
  by_verdict (Ok (ResendRequest choice)) client j out = absurd (Prim.cc (accepted_so (Ok (ResendRequest choice)) client j))
  by_verdict (Ok (Validated algorithm)) client j out =
      let same : Some algorithm ≡ Some c.algorithm = accepted_so (Ok (Validated algorithm)) client j in
      taken client (j.stored ∙ (ap (λ (a : Option IntegrityAlgorithm). going_by p.auth a) same ∙ ap (λ (x : auth.Client). going_by x (Some c.algorithm)) w.auth)) out
  by_verdict (Err error) client j out = absurd (Prim.cc (accepted_so (Err error) client j))

  pub renews : IsProcessed p bytes now handled q → (handled ≡ true) × Keeps q
  renews processed =
      let in_phase = subst (λ (f : Phase). IsProcessedIn f p bytes now handled q) w.phase (processed_awaited p bytes now handled q awaited processed) in
      let no_indication : is_indication (class_of (kind_at bytes)) ≡ false = ap is_indication is.success in
      let f = where_false (IsIndicationTaken p bytes handled q) (IsFollowed IsJudgedStanding p bytes now handled q) (is_indication (class_of (kind_at bytes))) no_indication in_phase in
      by_verdict f.verdict f.auth f.is_judged f.outcome
