-- The success response to a client's request comes to it, by the contract of `handle_message` alone.
use Rattle.std.proofs.Common.{◌≡◌, ℕ, Bool, true, false, List, [], ◌∷◌, Option, Some, None, sym, ap, ◌∙◌, subst, inl, inr}
use Rattle.std.specs.Prelude.{◌&&◌, Result, Ok, Err, is_some, if◌then◌else◌}
use Rattle.std.specs.FinMap as map
use Rattle.std.specs.Cmp.{eq_by_cmp_equiv, nat_cmp_total}
use Rattle.std.specs.Ordering.{is_eq, nat_cmp}
use Rattle.turn_client_proto_messages.specs.StunTypesWire.Attributes.{kind_at}
use Rattle.turn_client_proto_messages.specs.StunTypesWire.Grammar.{number_at}
use Rattle.turn_client_proto_messages.specs.StunTypesWire.declared.algorithm.IntegrityAlgorithm.{IntegrityAlgorithm}
use Rattle.turn_client_proto_messages.specs.StunTypesWire.Types.{class_of}
use Rattle.turn_client_proto_messages.specs.StunProtoClient.Client as auth
use Rattle.turn_client_proto_messages.specs.StunProtoClient.declared.error.LongTermClientAuthError.{LongTermClientAuthError}
use Rattle.turn_client_proto_messages.specs.StunProtoClient.ClientSteps.{accepted_by}
use Rattle.turn_client_proto_messages.specs.StunProtoClient.ClientValidation.{going_by}
use Rattle.turn_client_proto_messages.specs.StunProtoClient.declared.validation.LongTermClientValidation.{LongTermClientValidation}
use Rattle.turn_client_proto_messages.specs.StunProtoClient.declared.validation.LongTermClientValidation.TheVariants.{ResendRequest, Validated}
use Rattle.turn_client_proto_messages.specs.StunProtoTransaction.Agents.{Transaction}
use Rattle.turn_client_proto_messages.specs.StunProtoAgent.Handling.{after_message, answered as answered_by, is_awaited, is_response}
use Rattle.turn_client_proto_messages.proofs.StunProtoClient.Stepping.{right_is_accepted}
use Rattle.turn_client_proto_messages.specs.Allocation.declared.allocation.Allocation.{Allocation}
use Rattle.turn_client_proto_messages.specs.Api.declared.event.TurnEvent.{TurnEvent}
use Rattle.turn_client_proto_handshake_laws.specs.Core.Attempting.{IsAttemptTaken, IsIndicationTaken}
use Rattle.turn_client_proto_handshake_laws.specs.Core.Outcomes.{IsIgnored}
use Rattle.turn_client_proto_core.proofs.Awaiting.{processed_awaited}
use Rattle.turn_client_proto_handshake_laws.specs.Core.Receiving.{IsFollowed, IsProcessed, IsProcessedIn}
use Rattle.turn_client_proto_handshake_laws.specs.Core.Responding.{accepted, judged}
use Rattle.turn_client_proto_handshake_laws.specs.Core.Standing.{IsJudgedStanding, IsRequestAnswered}
use Rattle.turn_client_proto_messages.specs.Waiting.{Queued}
use Rattle.turn_client_proto_handshake_laws.specs.Core.declared.protocol.Phase.{Phase}
use Rattle.turn_client_proto_handshake_laws.specs.Core.declared.protocol.Phase.TheVariants.{Authenticated}
use Rattle.turn_client_proto_handshake_laws.specs.Core.declared.protocol.Protocol.{Protocol}
use Rattle.turn_client_proto_messages.specs.TurnRuns.Indications.{is_indication}
use Rattle.turn_client_proto_messages.specs.Judging.{IsJudged}
use Rattle.turn_client_proto_handshake_laws.specs.Requested.{Requested}
use Rattle.turn_client_proto_progress_laws.proofs.TcpBinding.Tools.{no_challenge, successes_respond}
use Rattle.turn_client_proto_progress_laws.proofs.TcpBinding.Tools.{clash, taken_out, where_false, where_true}
use Rattle.turn_client_proto_progress_laws.specs.Holders.{AreOutstanding, Holder, IsListed, IsOneOf}
use Rattle.turn_client_proto_progress_laws.specs.TcpBinding.{IsTcpBinding}
use Rattle.turn_client_proto_progress_laws.specs.Replies.{IsSuccessOf}

module _ (h : Holder) (x : Requested) (older : List Requested) (a : Allocation) (queue : List Queued) (last : ℕ) (events : List TurnEvent) (p : Protocol) (w : IsTcpBinding h (Some x) older a queue last events p)
    (method : ℕ) (bytes : List ℕ) (is : IsSuccessOf h method x.number bytes) where
  pub awaited_is : is_awaited p.agent bytes ≡ true
  awaited_is = ap (λ (n : ℕ). is_some (map.get p.agent.outstanding n)) is.number_is ∙ ap is_some w.outstanding.newest

  pub responds : is_response bytes ≡ true
  responds = successes_respond bytes is.success

  occurs : auth.standing_of p.auth ≡ Some h.standing
  occurs = ap auth.standing_of w.auth_is ∙ w.signs.occurs

  -- The verdict on it is that it validates, and the client's authenticator is as it was.
  pub accepted_so : (verdict : Result LongTermClientValidation LongTermClientAuthError) (client : auth.Client) → IsJudged p.auth bytes verdict client → accepted_by verdict ≡ Some h.standing.challenge.choice
  accepted_so verdict client j = right_is_accepted p.auth client bytes h.standing verdict j (no_challenge bytes is.success) occurs is.right

  pub stored_auth : (client : auth.Client) (algorithm : IntegrityAlgorithm) → Some algorithm ≡ Some h.standing.challenge.choice → client ≡ going_by p.auth (Some algorithm) → client ≡ h.auth
  stored_auth client algorithm same stored =
      stored
      ∙ (ap (λ (o : Option IntegrityAlgorithm). going_by p.auth o) same
      ∙ (ap (λ (y : auth.Client). going_by y (Some h.standing.challenge.choice)) w.auth_is
      ∙ ap (λ (o : Option IntegrityAlgorithm). going_by h.auth o) (sym w.signs.goes_by)))

  -- The response was accepted.
  pub record IsAccepted (now : ℕ) (handled : Bool) (q : Protocol) : Type 0 where
    pub client : auth.Client
    pub client_is : client ≡ h.auth
    pub answered : IsRequestAnswered (accepted bytes (judged client p)) bytes now handled q

  by_verdict : (now : ℕ) (handled : Bool) (q : Protocol) (verdict : Result LongTermClientValidation LongTermClientAuthError) (client : auth.Client) → IsJudged p.auth bytes verdict client → IsJudgedStanding verdict (judged client p) bytes now handled q → IsAccepted now handled q
  by_verdict now handled q (Ok (ResendRequest choice)) client j out = absurd (Prim.cc (accepted_so (Ok (ResendRequest choice)) client j))
  by_verdict now handled q (Ok (Validated algorithm)) client j out =
      let counts : (is_response bytes && is_awaited p.agent bytes) ≡ true = ap (λ (b : Bool). b && is_awaited p.agent bytes) responds ∙ awaited_is in
      record {
        client = client;
        client_is = stored_auth client algorithm (accepted_so (Ok (Validated algorithm)) client j) j.stored;
        answered = where_true (IsRequestAnswered (accepted bytes (judged client p)) bytes now handled q) (IsAttemptTaken (judged client p) bytes handled q) (is_response bytes && is_awaited p.agent bytes) counts out;
      }
  by_verdict now handled q (Err error) client j out = absurd (Prim.cc (accepted_so (Err error) client j))

  pub success_processed : (now : ℕ) (handled : Bool) (q : Protocol) → IsProcessed p bytes now handled q → IsAccepted now handled q
  success_processed now handled q processed =
      let in_phase : IsProcessedIn Authenticated p bytes now handled q = subst (λ (f : Phase). IsProcessedIn f p bytes now handled q) w.phase (processed_awaited p bytes now handled q awaited_is processed) in
      let no_indication : is_indication (class_of (kind_at bytes)) ≡ false = ap is_indication is.success in
      let f = where_false (IsIndicationTaken p bytes handled q) (IsFollowed IsJudgedStanding p bytes now handled q) (is_indication (class_of (kind_at bytes))) no_indication in_phase in
      by_verdict now handled q f.verdict f.auth f.is_judged f.outcome

  -- ---- what is outstanding then

  pub agent_after : after_message p.agent bytes p.server ≡ answered_by p.agent bytes p.server
  agent_after = ap (λ (b : Bool). if b then answered_by p.agent bytes p.server else p.agent) (ap (λ (b : Bool). b && is_awaited p.agent bytes) responds ∙ awaited_is)

  one_of : (number : ℕ) (t : Transaction) → is_eq (nat_cmp number (number_at bytes)) ≡ false → (o : IsOneOf h.started (x ∷ older) number t) → IsListed o.requested (x ∷ older) → IsOneOf h.started older number t
  one_of number t differs o (inl same) = clash (is_eq (nat_cmp number (number_at bytes)))
      (ap (λ (n : ℕ). is_eq (nat_cmp n (number_at bytes))) (o.number_is ∙ (ap (λ (y : Requested). y.number) same ∙ sym is.number_is)) ∙ (eq_by_cmp_equiv nat_cmp_total).refl (number_at bytes)) differs
  one_of number t differs o (inr listed) = record { requested = o.requested; listed = listed; number_is = o.number_is; transaction_is = o.transaction_is }

  -- This holds whatever becomes of the rest.
  pub none_awaited : AreOutstanding h.started None older (answered_by p.agent bytes p.server)
  none_awaited = record {
    newest = tt;
    only = λ number t there. (
        let was = taken_out p.agent.outstanding (number_at bytes) number t there in
        let o = w.outstanding.only number t was.1 in
        one_of number t was.0 o o.listed);
  }

  pub after_success : (b : Allocation) (l : List Allocation) → l ≡ b ∷ [] → (more : List TurnEvent) (e : List TurnEvent) → e ≡ more → (client : auth.Client) → client ≡ h.auth → (resends : ℕ)
      → IsTcpBinding h None older b queue last more (record p { auth = client; agent = answered_by p.agent bytes p.server; resends = resends; allocations = l; events = e })
  after_success b l l_is more e e_is client client_is resends = record {
    settings = record {
      server = w.settings.server;
      remote = w.settings.remote;
      transport = w.settings.transport;
      here = w.settings.here;
      waits = w.settings.waits;
      allocates = w.settings.allocates;
      families = w.settings.families;
      options = w.settings.options;
      pace = w.settings.pace;
      indications = w.settings.indications;
      usual = w.settings.usual;
    };
    signs = w.signs;
    outstanding = none_awaited;
    phase = w.phase;
    auth_is = client_is;
    allocations = l_is;
    queue_is = w.queue_is;
    last_send = w.last_send;
    events_are = e_is;
    closing = w.closing;
  }
