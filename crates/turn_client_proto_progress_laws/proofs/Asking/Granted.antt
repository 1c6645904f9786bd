-- What a client does with the success response to its request.
use Rattle.std.proofs.Common.{◌≡◌, ℕ, Bool, true, false, ◌||◌, List, [], ◌∷◌, ◌++◌, Option, Some, refl, sym, ap, ◌∙◌, subst, inl, inr}
use Rattle.std.specs.Prelude.{◌==◌, ◌&&◌, Result, Ok, Err, is_some}
use Rattle.std.specs.FinMap as finite
use Rattle.std.proofs.lemmas.Bool.{cases_Bool}
use Rattle.std.specs.List.{list_any}
use Rattle.std.specs.Cmp.Lexicographic.{bytes_decides}
use Rattle.std.specs.Net.Addr.{ipv4_octets, ipv6_segments}
use Rattle.std.specs.Option.{option_and_then}
use Rattle.std.specs.declared.net.ip_addr.IpAddr.{IpAddr}
use Rattle.std.specs.declared.net.ip_addr.IpAddr.TheVariants.{V4, V6}
use Rattle.std.specs.declared.net.socket_addr.SocketAddr.{SocketAddr}
use Rattle.turn_client_proto_messages.specs.StunTypesWire.Attributes.{kind_at}
use Rattle.turn_client_proto_messages.specs.StunTypesWire.Grammar.{number_at}
use Rattle.turn_client_proto_messages.specs.StunTypesWire.declared.algorithm.IntegrityAlgorithm.{IntegrityAlgorithm}
use Rattle.turn_client_proto_messages.specs.StunTypesWire.Types.{class_of, method_of}
use Rattle.turn_client_proto_messages.specs.StunProtoAuth.Claims.{Claimed, claimed}
use Rattle.turn_client_proto_messages.specs.StunProtoClient.Client as auth
use Rattle.turn_client_proto_messages.specs.StunProtoClient.declared.error.LongTermClientAuthError.{LongTermClientAuthError}
use Rattle.turn_client_proto_messages.specs.StunProtoClient.ClientSteps.{accepted_by}
use Rattle.turn_client_proto_messages.specs.StunProtoClient.declared.validation.LongTermClientValidation.{LongTermClientValidation}
use Rattle.turn_client_proto_messages.specs.StunProtoClient.declared.validation.LongTermClientValidation.TheVariants.{ResendRequest, Validated}
use Rattle.turn_client_proto_messages.specs.StunProtoClient.Digests.{IsRight}
use Rattle.turn_client_proto_messages.specs.StunProtoAgent.Handling.{after_message, ends_one, is_awaited, is_response}
use Rattle.turn_client_proto_messages.specs.StunProtoAgent.State as agents
use Rattle.turn_client_proto_messages.proofs.StunProtoClient.Stepping.{right_is_accepted}
use Rattle.turn_client_proto_messages.specs.TurnTypesAttributes.TurnRegistry.{create_permission_method, refresh_method}
use Rattle.turn_client_proto_messages.specs.Allocation.Awaited.{asks_for_channel, is_refresh, renews_channel}
use Rattle.turn_client_proto_messages.specs.Allocation.Changes.{change_first}
use Rattle.turn_client_proto_messages.specs.Allocation.declared.allocation.Allocation.{Allocation}
use Rattle.turn_client_proto_messages.specs.Allocation.declared.permission.Permission.{Permission}
use Rattle.turn_client_proto_messages.specs.Allocation.PendingRequests.{addresses_for, pending_request, requested_of, awaits_reply}
use Rattle.turn_client_proto_step_laws.specs.Peers.Permission.Permitted.{all_permitted}
use Rattle.turn_client_proto_messages.specs.Allocation.declared.pending.PendingRequest.{PendingRequest}
use Rattle.turn_client_proto_messages.specs.Allocation.declared.pending.PendingRequest.TheVariants.{NewPermission}
use Rattle.turn_client_proto_handshake_laws.specs.Core.Outcomes.{IsHandled, IsIgnored}
use Rattle.turn_client_proto_handshake_laws.specs.Core.Permitting.{IsGrantedFor, IsPermissionResponded, IsRefusedFor, granted}
use Rattle.turn_client_proto_core.proofs.Awaiting.{processed_awaited}
use Rattle.turn_client_proto_handshake_laws.specs.Core.Receiving.{IsFollowed, IsProcessed, IsProcessedIn}
use Rattle.turn_client_proto_handshake_laws.specs.Core.Responding.{accepted, is_error_class, judged}
use Rattle.turn_client_proto_handshake_laws.specs.Core.Standing.{IsJudgedStanding, IsRequestAnswered, IsTakenUp}
use Rattle.turn_client_proto_handshake_laws.specs.Core.Attempting.{IsAttemptTaken, IsIndicationTaken}
use Rattle.turn_client_proto_handshake_laws.specs.Core.declared.protocol.Phase.{Phase}
use Rattle.turn_client_proto_handshake_laws.specs.Core.declared.protocol.Phase.TheVariants.{Authenticated}
use Rattle.turn_client_proto_handshake_laws.specs.Core.declared.protocol.Protocol.{Protocol}
use Rattle.turn_client_proto_messages.specs.Judging.{IsJudged}
use Rattle.turn_client_proto_messages.specs.OwnClaims.{own_claim}
use Rattle.turn_client_proto_messages.specs.TurnRuns.Indications.{is_indication}
use Rattle.turn_client_proto_messages.specs.StunTypesBase.declared.transport.TransportType.{TransportType}
use Rattle.turn_client_proto_messages.specs.StunTypesBase.declared.transport.TransportType.TheVariants.{Udp, Tcp}
use Rattle.turn_client_proto_step_laws.specs.Peers.Permission.Asking.{permits_over}
use Rattle.turn_client_proto_messages.specs.Allocation.Permits.{is_for, permits}
use Rattle.turn_client_proto_step_laws.specs.Peers.Permission.Granted.{granted_for, permitted}
use Rattle.turn_client_proto_messages.specs.Allocation.Same.{is_same_ip, is_same_transport}
use Rattle.turn_client_proto_progress_laws.proofs.Asking.Addresses.{one_address}
use Rattle.turn_client_proto_progress_laws.proofs.Asking.Tools.{no_challenge, successes_respond}
use Rattle.turn_client_proto_progress_laws.proofs.Asking.Tools.{where_false, where_true}
use Rattle.turn_client_proto_handshake_laws.specs.Sent.{Beginning}
use Rattle.turn_client_proto_progress_laws.specs.Asking.{APermission, HasMadeRequest, Wanted}
use Rattle.turn_client_proto_progress_laws.specs.Holding.{HoldsPermission, IsGrantOf}
use Rattle.turn_client_proto_progress_laws.specs.Speaking.{standing_under}
use Rattle.turn_client_proto_progress_laws.proofs.Asking.Lists.{none_found, one_changed, one_found}
use Rattle.turn_client_proto_progress_laws.proofs.Asking.Moving.{own}

module _ (b : Beginning) (realm : List ℕ) (address : SocketAddr) (wanted : Wanted) (request : List ℕ) (until beyond now : ℕ) (Counts : ℕ → Type 0) (p : Protocol) (h : HasMadeRequest b realm address wanted request until beyond Counts p) where
  abbrev standing : auth.Standing
  standing = standing_under b h.speaks.signs.challenge

  occurs : auth.standing_of p.auth ≡ Some standing
  occurs = Prim.cc (h.speaks.signs.account, h.speaks.signs.stored)

  -- ---- the reply is accepted

  module _ (reply : List ℕ) (shows : number_at request ≡ h.number) (claims : claimed request ≡ own_claim p.auth.anonymous_username standing) (g : IsGrantOf b realm request reply) where
    numbered : number_at reply ≡ h.number
    numbered = g.number ∙ shows

    awaited : is_awaited p.agent reply ≡ true
    awaited = ap (λ (n : ℕ). is_some (finite.get p.agent.outstanding n)) numbered ∙ ap is_some h.outstanding

    responds : is_response reply ≡ true
    responds = successes_respond reply g.success

    by_choice : g.algorithm ≡ h.speaks.signs.challenge.choice
    by_choice = Prim.cc (sym g.signed ∙ ap (λ (c : Claimed). c.integrity) claims)

    right : IsRight reply (auth.standing_key standing)
    right = subst (λ (r : List ℕ). IsRight reply (auth.account_key b.config.credentials r h.speaks.signs.challenge.choice)) (sym h.speaks.signs.realm_is)
        (subst (λ (a : IntegrityAlgorithm). IsRight reply (auth.account_key b.config.credentials realm a)) by_choice g.right)

    accepted_so : (verdict : Result LongTermClientValidation LongTermClientAuthError) (client : auth.Client) → IsJudged p.auth reply verdict client → accepted_by verdict ≡ Some h.speaks.signs.challenge.choice
    accepted_so verdict client j = right_is_accepted p.auth client reply standing verdict j (no_challenge reply g.success) occurs right

    -- The response answers the request.
    pub record IsAnsweredOn (handled : Bool) (q : Protocol) : Type 0 where
      pub client : auth.Client
      pub answered : IsRequestAnswered (accepted reply (judged client p)) reply now handled q

    taken_so : (client : auth.Client) (handled : Bool) (q : Protocol) → IsTakenUp (judged client p) reply now handled q → IsAnsweredOn handled q
    taken_so client handled q is =
        let k = judged client p in
        let both : (is_response reply && is_awaited p.agent reply) ≡ true = ap (λ (x : Bool). x && is_awaited p.agent reply) responds ∙ awaited in
        record {
          client = client;
          answered = where_true (IsRequestAnswered (accepted reply k) reply now handled q) (IsAttemptTaken k reply handled q) (is_response reply && is_awaited p.agent reply) both is;
        }

    by_verdict : (verdict : Result LongTermClientValidation LongTermClientAuthError) (client : auth.Client) (handled : Bool) (q : Protocol) → IsJudged p.auth reply verdict client → IsJudgedStanding verdict (judged client p) reply now handled q
        → IsAnsweredOn handled q
    by_verdict (Ok (ResendRequest choice)) client handled q j out = absurd (Prim.cc (accepted_so (Ok (ResendRequest choice)) client j))
    by_verdict (Ok (Validated algorithm)) client handled q j out = taken_so client handled q out
    by_verdict (Err error) client handled q j out = absurd (Prim.cc (accepted_so (Err error) client j))

    pub answers : (handled : Bool) (q : Protocol) → IsProcessed p reply now handled q → IsAnsweredOn handled q
    answers handled q processed =
        let in_phase : IsProcessedIn Authenticated p reply now handled q = subst (λ (f : Phase). IsProcessedIn f p reply now handled q) h.phase (processed_awaited p reply now handled q awaited processed) in
        let no_indication : is_indication (class_of (kind_at reply)) ≡ false = ap is_indication g.success in
        let f = where_false (IsIndicationTaken p reply handled q) (IsFollowed IsJudgedStanding p reply now handled q) (is_indication (class_of (kind_at reply))) no_indication in_phase in
        by_verdict f.verdict f.auth handled q f.is_judged f.outcome

-- ---- a permission

-- An address compares as equal to itself.
itself_ip : (a : IpAddr) → is_same_ip a a ≡ true
itself_ip (V4 a) = (bytes_decides (ipv4_octets a) (ipv4_octets a)).1 refl
itself_ip (V6 a) = (bytes_decides (ipv6_segments a) (ipv6_segments a)).1 refl

or_true : (y : Bool) → (y || true) ≡ true
or_true true = refl
or_true false = refl

last_passes : (ip : IpAddr) (now : ℕ) (xs : List Permission) → list_any (is_for ip) (xs ++ granted_for ip now ∷ []) ≡ true
last_passes ip now [] = ap (λ (x : Bool). x || false) (itself_ip ip)
last_passes ip now (x ∷ xs) = ap (λ (y : Bool). is_for ip x || y) (last_passes ip now xs) ∙ or_true (is_for ip x)

-- What a response leaves unchanged in an agent.
pub record IsLike (agent after : agents.Agent) : Type 0 where
  pub remote : after.remote ≡ agent.remote
  pub transport : after.transport ≡ agent.transport
  pub here : after.here ≡ agent.here
  pub waits : after.waits ≡ agent.waits

pub after_like : (agent : agents.Agent) (bytes : List ℕ) (from : SocketAddr) → IsLike agent (after_message agent bytes from)
after_like agent bytes from = elim (cases_Bool (ends_one agent bytes)) [
  | inl is ↦ rw is (record { remote = refl; transport = refl; here = refl; waits = refl })
  | inr not ↦ rw not (record { remote = refl; transport = refl; here = refl; waits = refl })
]

module _ (b : Beginning) (realm : List ℕ) (address : SocketAddr) (ip : IpAddr) (request : List ℕ) (until beyond now : ℕ) (Counts : ℕ → Type 0) (p : Protocol) (h : HasMadeRequest b realm address (APermission ip) request until beyond Counts p) where
  abbrev a : Allocation
  a = h.allocation

  -- What the request with this transaction ID asks for.
  asks_for : requested_of h.number a ≡ Some (NewPermission a.transport ip)
  unfolding requested_of
  asks_for =
      let one = none_found (is_refresh h.number) a.pending_refreshes h.awaits.no_refresh in
      let two = none_found (asks_for_channel h.number) a.pending_channels h.awaits.no_channel in
      let three = none_found (renews_channel h.number) a.channels h.awaits.no_renewal in
      let four = h.awaits.requested in
      rw (one, two, three, four) refl

  awaits_it : awaits_reply h.number a ≡ true
  awaits_it = ap is_some asks_for

  requested_here : (number : ℕ) → number ≡ h.number → pending_request number p.allocations ≡ Some (NewPermission a.transport ip)
  requested_here number same =
      ap (λ (n : ℕ). pending_request n p.allocations) same
      ∙ (ap (λ (l : List Allocation). pending_request h.number l) h.only
      ∙ (ap (λ (o : Option Allocation). option_and_then (requested_of h.number) o) (one_found (awaits_reply h.number) a awaits_it) ∙ asks_for))

  -- It asks for this address alone.
  addresses_here : (number : ℕ) → number ≡ h.number → addresses_for number p.allocations ≡ ip ∷ []
  addresses_here number same =
      ap (λ (n : ℕ). addresses_for n p.allocations) same
      ∙ (ap (λ (l : List Allocation). addresses_for h.number l) h.only ∙ one_address h.number ip h.numbers a awaits_it h.awaits.requested)

  module _ (reply : List ℕ) (shows : number_at request ≡ h.number) (claims : claimed request ≡ own_claim p.auth.anonymous_username (standing_under b h.speaks.signs.challenge)) (method : method_of (kind_at request) ≡ create_permission_method)
      (g : IsGrantOf b realm request reply) where
    abbrev k : auth.Client → Protocol
    k client = accepted reply (judged client p)

    allocations_are : (client : auth.Client) → (k client).allocations ≡ p.allocations
    unfolding accepted
    allocations_are client = refl

    by_method : (client : auth.Client) (handled : Bool) (q : Protocol) → IsRequestAnswered (k client) reply now handled q → IsPermissionResponded (k client) reply now handled q
    by_method client handled q is =
        let own_method : method_of (kind_at reply) ≡ create_permission_method = g.method ∙ method in
        let no_refresh : (method_of (kind_at reply) == refresh_method) ≡ false = ap (λ (m : ℕ). m == refresh_method) own_method in
        let permits_it : (method_of (kind_at reply) == create_permission_method) ≡ true = ap (λ (m : ℕ). m == create_permission_method) own_method in
        where_true _ _ (method_of (kind_at reply) == create_permission_method) permits_it (where_false _ _ (method_of (kind_at reply) == refresh_method) no_refresh is)

    granted_so : (client : auth.Client) (handled : Bool) (q : Protocol) → IsPermissionResponded (k client) reply now handled q → IsHandled (granted a.transport (ip ∷ []) (number_at reply) now (k client)) handled q
    granted_so client handled q is =
        let success : is_error_class (class_of (kind_at reply)) ≡ false = ap is_error_class g.success in
        let by_class = where_false (IsRefusedFor (pending_request (number_at reply) (k client).allocations) (k client) (number_at reply) handled q)
        (IsGrantedFor (pending_request (number_at reply) (k client).allocations) (k client) (number_at reply) now handled q) (is_error_class (class_of (kind_at reply))) success is in
        let what : pending_request (number_at reply) (k client).allocations ≡ Some (NewPermission a.transport ip) =
        ap (λ (l : List Allocation). pending_request (number_at reply) l) (allocations_are client) ∙ requested_here (number_at reply) (g.number ∙ shows) in
        let addresses : addresses_for (number_at reply) (k client).allocations ≡ ip ∷ [] =
        ap (λ (l : List Allocation). addresses_for (number_at reply) l) (allocations_are client) ∙ addresses_here (number_at reply) (g.number ∙ shows) in
        subst (λ (l : List IpAddr). IsHandled (granted a.transport l (number_at reply) now (k client)) handled q) addresses
        (subst (λ (o : Option PendingRequest). IsGrantedFor o (k client) (number_at reply) now handled q) what by_class)

    -- The allocation afterwards.
    permitted_is : all_permitted ip (number_at reply) now p.allocations ≡ permitted ip (number_at reply) now a ∷ []
    permitted_is =
        let passes : awaits_reply (number_at reply) a ≡ true = ap (λ (n : ℕ). awaits_reply n a) (g.number ∙ shows) ∙ awaits_it in
        ap (λ (l : List Allocation). change_first (awaits_reply (number_at reply)) (permitted ip (number_at reply) now) l) h.only ∙ one_changed (awaits_reply (number_at reply)) (permitted ip (number_at reply) now) a passes

    permits_now : permits ip (permitted ip (number_at reply) now a) ≡ true
    permits_now = last_passes ip now a.permissions

    holds_after : (client : auth.Client) → HoldsPermission b ip (granted a.transport (ip ∷ []) (number_at reply) now (k client))
    unfolding granted accepted
    holds_after client = (let like = after_like p.agent reply p.server in record {
      settings = record {
        server = h.speaks.settings.server;
        remote = like.remote ∙ h.speaks.settings.remote;
        transport = like.transport ∙ h.speaks.settings.transport;
        here = like.here ∙ h.speaks.settings.here;
        waits = like.waits ∙ h.speaks.settings.waits;
        allocates = h.speaks.settings.allocates;
        families = h.speaks.settings.families;
        options = h.speaks.settings.options;
        pace = h.speaks.settings.pace;
        indications = h.speaks.settings.indications;
        usual = h.speaks.settings.usual;
      };
      phase = h.phase;
      allocation = permitted ip (number_at reply) now a;
      only = permitted_is;
      transport = (own b realm address (APermission ip) request until beyond Counts p h).transport;
      occurs = h.occurs;
      is = permits_now;
    })

    pub holds : (handled : Bool) (q : Protocol) → IsProcessed p reply now handled q → (handled ≡ true) × HoldsPermission b ip q
    holds handled q processed =
        let r = answers b realm address (APermission ip) request until beyond now Counts p h reply shows claims g handled q processed in
        let done = granted_so r.client handled q (by_method r.client handled q r.answered) in
        (done.0, subst (λ (x : Protocol). HoldsPermission b ip x) (sym done.1) (holds_after r.client))

    -- Then it has answered no challenge in a row.
    none_after : (client : auth.Client) → (granted a.transport (ip ∷ []) (number_at reply) now (k client)).resends ≡ 0
    unfolding granted accepted
    none_after client = refl

    pub none_counted : (handled : Bool) (q : Protocol) → IsProcessed p reply now handled q → q.resends ≡ 0
    none_counted handled q processed =
        let r = answers b realm address (APermission ip) request until beyond now Counts p h reply shows claims g handled q processed in
        let done = granted_so r.client handled q (by_method r.client handled q r.answered) in
        ap (λ (x : Protocol). x.resends) done.1 ∙ none_after r.client

-- ---- what it says of it

itself_transport : (t : TransportType) → is_same_transport t t ≡ true
itself_transport Udp = refl
itself_transport Tcp = refl

pub says_so : (b : Beginning) (ip : IpAddr) (p : Protocol) → HoldsPermission b ip p → list_any (permits_over b.config.transport ip) p.allocations ≡ true
says_so b ip p h =
    let own_transport : is_same_transport h.allocation.transport b.config.transport ≡ true = ap (λ (t : TransportType). is_same_transport t b.config.transport) h.transport ∙ itself_transport b.config.transport in
    let here : permits_over b.config.transport ip h.allocation ≡ true = rw (h.occurs, own_transport, h.is) refl in
    ap (λ (l : List Allocation). list_any (permits_over b.config.transport ip) l) h.only ∙ rw here refl
