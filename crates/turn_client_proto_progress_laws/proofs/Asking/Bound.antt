-- What a client with a pending request for a channel does with its success response, and what it delivers
-- then.
use Rattle.std.proofs.Common.{◌≡◌, ℕ, ◌+◌, Bool, true, false, List, [], ◌∷◌, length, Option, Some, None, is_none, option_map, refl, sym, ap, ◌∙◌, subst, inl, inr, append-nil}
use Rattle.std.specs.Prelude.{◌==◌, find, is_some}
use Rattle.std.specs.Option.{option_and_then}
use Rattle.std.specs.declared.net.ip_addr.IpAddr.{IpAddr}
use Rattle.std.specs.declared.net.socket_addr.SocketAddr.{SocketAddr}
use Rattle.std.proofs.lemmas.Bool.{eq-eqb}
use Rattle.turn_client_proto_messages.specs.StunTypesWire.Attributes.{kind_at}
use Rattle.turn_client_proto_messages.specs.StunTypesWire.Grammar.{number_at, refusal}
use Rattle.turn_client_proto_messages.specs.StunTypesWire.Types.{class_of, method_of}
use Rattle.turn_client_proto_messages.specs.StunProtoAuth.Claims.{claimed}
use Rattle.turn_client_proto_messages.specs.StunProtoClient.Client as auth
use Rattle.turn_client_proto_messages.specs.TurnTypesFrame.ChannelFrames.{Frame, channel_refusal, frame_at}
use Rattle.turn_client_proto_messages.specs.TurnTypesAttributes.TurnRegistry.{channel_bind_method, channel_header_size, create_permission_method, refresh_method}
use Rattle.turn_client_proto_messages.specs.Allocation.Awaited.{is_refresh}
use Rattle.turn_client_proto_messages.specs.Allocation.Changes.{change_first}
use Rattle.turn_client_proto_messages.specs.Allocation.declared.allocation.Allocation.{Allocation}
use Rattle.turn_client_proto_messages.specs.Allocation.declared.channel.Channel.{Channel}
use Rattle.turn_client_proto_messages.specs.Allocation.PendingRequests.{pending_request, requested_of, awaits_reply}
use Rattle.turn_client_proto_step_laws.specs.Peers.Channel.Granted.{all_bound, bound as bound_in_one, granted_to}
use Rattle.turn_client_proto_step_laws.specs.Peers.Channel.Numbers.{is_numbered}
use Rattle.turn_client_proto_step_laws.specs.Peers.Channel.Visible.{channels_of, channels_listed, pairs_of}
use Rattle.turn_client_proto_messages.specs.Allocation.declared.pending.PendingRequest.{PendingRequest}
use Rattle.turn_client_proto_messages.specs.Allocation.declared.pending.PendingRequest.TheVariants.{NewChannel}
use Rattle.turn_client_proto_handshake_laws.specs.Core.Binding.{IsBindResponded, IsBoundFor, IsUnboundFor, bound, permission_with, permitted_with}
use Rattle.turn_client_proto_handshake_laws.specs.Core.Outcomes.{IsHandled}
use Rattle.turn_client_proto_handshake_laws.specs.Core.Receiving.{IsProcessed}
use Rattle.turn_client_proto_handshake_laws.specs.Core.Responding.{accepted, is_error_class, judged}
use Rattle.turn_client_proto_handshake_laws.specs.Core.Standing.{IsRequestAnswered}
use Rattle.turn_client_proto_handshake_laws.specs.Core.declared.protocol.Protocol.{Protocol}
use Rattle.turn_client_proto_messages.specs.OwnClaims.{own_claim}
use Rattle.turn_client_proto_messages.specs.TurnRuns.Members.{IsIn}
use Rattle.turn_client_proto_step_laws.specs.Payload.declared.payload.Payload.TheVariants.{Framed}
use Rattle.turn_client_proto_step_laws.specs.Payload.Payloads.{bound as bound_to, bound_in, framed_by, payload_framed, payload_of}
use Rattle.turn_client_proto_step_laws.specs.Peers.Permission.Granted.{permitted}
use Rattle.turn_client_proto_step_laws.proofs.Lists.{found_in}
use Rattle.turn_client_proto_progress_laws.proofs.Asking.Tools.{where_false, where_true}
use Rattle.turn_client_proto_handshake_laws.specs.Sent.{Beginning}
use Rattle.turn_client_proto_progress_laws.specs.Asking.{AChannel, AwaitsChannel, HasMadeRequest}
use Rattle.turn_client_proto_progress_laws.specs.Holding.{HoldsChannel, IsBoundTo, IsFrameOf, IsGrantOf}
use Rattle.turn_client_proto_progress_laws.specs.Speaking.{standing_under}
use Rattle.turn_client_proto_progress_laws.proofs.Asking.Granted.{after_like, answers}
use Rattle.turn_client_proto_progress_laws.proofs.Asking.Lists.{found_last, none_found, one_changed, one_found}
use Rattle.turn_client_proto_progress_laws.proofs.Asking.Moving.{own}

module _ (numbers : List ℕ) (number channel : ℕ) (peer : SocketAddr) where
  -- What the request with this transaction ID asks for.
  asks_in : (a : Allocation) → AwaitsChannel numbers number channel peer a → requested_of number a ≡ Some (NewChannel a.transport channel peer)
  unfolding requested_of
  asks_in a is =
      let one = none_found (is_refresh number) a.pending_refreshes is.no_refresh in
      let two = is.requested in
      rw (one, two) refl

  awaits_in : (a : Allocation) → AwaitsChannel numbers number channel peer a → awaits_reply number a ≡ true
  awaits_in a is = ap is_some (asks_in a is)

module _ (b : Beginning) (realm : List ℕ) (address : SocketAddr) (channel : ℕ) (peer : SocketAddr) (request : List ℕ) (until beyond now : ℕ) (Counts : ℕ → Type 0) (p : Protocol) (h : HasMadeRequest b realm address (AChannel channel peer) request until beyond Counts p) where
  abbrev a : Allocation
  a = h.allocation

  requested_here : (number : ℕ) → number ≡ h.number → pending_request number p.allocations ≡ Some (NewChannel a.transport channel peer)
  requested_here number same =
      ap (λ (n : ℕ). pending_request n p.allocations) same
      ∙ (ap (λ (l : List Allocation). pending_request h.number l) h.only
      ∙ (ap (λ (o : Option Allocation). option_and_then (requested_of h.number) o) (one_found (awaits_reply h.number) a (awaits_in h.numbers h.number channel peer a h.awaits)) ∙ asks_in h.numbers h.number channel peer a h.awaits))

  module _ (reply : List ℕ) (shows : number_at request ≡ h.number) (claims : claimed request ≡ own_claim p.auth.anonymous_username (standing_under b h.speaks.signs.challenge)) (method : method_of (kind_at request) ≡ channel_bind_method)
      (g : IsGrantOf b realm request reply) where
    abbrev k : auth.Client → Protocol
    k client = accepted reply (judged client p)

    abbrev number : ℕ
    number = number_at reply

    numbered : number ≡ h.number
    numbered = g.number ∙ shows

    allocations_are : (client : auth.Client) → (k client).allocations ≡ p.allocations
    unfolding accepted
    allocations_are client = refl

    by_method : (client : auth.Client) (handled : Bool) (q : Protocol) → IsRequestAnswered (k client) reply now handled q → IsBindResponded (k client) reply now handled q
    by_method client handled q is =
        let own_method : method_of (kind_at reply) ≡ channel_bind_method = g.method ∙ method in
        let no_refresh : (method_of (kind_at reply) == refresh_method) ≡ false = ap (λ (m : ℕ). m == refresh_method) own_method in
        let no_permission : (method_of (kind_at reply) == create_permission_method) ≡ false = ap (λ (m : ℕ). m == create_permission_method) own_method in
        let binds_it : (method_of (kind_at reply) == channel_bind_method) ≡ true = ap (λ (m : ℕ). m == channel_bind_method) own_method in
        where_true _ _ (method_of (kind_at reply) == channel_bind_method) binds_it
        (where_false _ _ (method_of (kind_at reply) == create_permission_method) no_permission (where_false _ _ (method_of (kind_at reply) == refresh_method) no_refresh is))

    -- The permission that comes with the channel.
    abbrev ip : auth.Client → Option IpAddr
    ip client = permission_with number (k client).allocations

    bound_so : (client : auth.Client) (handled : Bool) (q : Protocol) → IsBindResponded (k client) reply now handled q → IsHandled (bound a.transport channel peer (ip client) number now (k client)) handled q
    bound_so client handled q is =
        let success : is_error_class (class_of (kind_at reply)) ≡ false = ap is_error_class g.success in
        let by_class = where_false (IsUnboundFor (pending_request number (k client).allocations) (k client) number handled q)
        (IsBoundFor (pending_request number (k client).allocations) (k client) number now handled q) (is_error_class (class_of (kind_at reply))) success is in
        let what : pending_request number (k client).allocations ≡ Some (NewChannel a.transport channel peer) =
        ap (λ (l : List Allocation). pending_request number l) (allocations_are client) ∙ requested_here number numbered in
        subst (λ (o : Option PendingRequest). IsBoundFor o (k client) number now handled q) what by_class

    -- ---- the allocation then

    -- The allocations with that permission, or without one.
    pub record IsPermitted (l : List Allocation) : Type 0 where
      pub one : Allocation
      pub only : l ≡ one ∷ []
      pub transport : one.transport ≡ a.transport
      pub occurs : one.is_expired ≡ a.is_expired
      pub channels : one.channels ≡ a.channels
      pub awaits : AwaitsChannel h.numbers number channel peer one

    own_awaits : AwaitsChannel h.numbers number channel peer a
    own_awaits = subst (λ (n : ℕ). AwaitsChannel h.numbers n channel peer a) (sym numbered) h.awaits

    permitted_so : (o : Option IpAddr) → IsPermitted (permitted_with o number now p.allocations)
    permitted_so None = record { one = a; only = h.only; transport = refl; occurs = refl; channels = refl; awaits = own_awaits }
    permitted_so (Some x) = record {
      one = permitted x number now a;
      only = ap (λ (l : List Allocation). change_first (awaits_reply number) (permitted x number now) l) h.only ∙ one_changed (awaits_reply number) (permitted x number now) a (awaits_in h.numbers number channel peer a own_awaits);
      transport = refl;
      occurs = refl;
      channels = refl;
      awaits = record { no_refresh = own_awaits.no_refresh; requested = own_awaits.requested; free = own_awaits.free };
    }

    bound_is : (s : (l : List Allocation) × IsPermitted l) → all_bound channel peer number now s.0 ≡ bound_in_one channel peer number now s.1.one ∷ []
    bound_is s =
        ap (λ (l : List Allocation). change_first (awaits_reply number) (bound_in_one channel peer number now) l) s.1.only
        ∙ one_changed (awaits_reply number) (bound_in_one channel peer number now) s.1.one (awaits_in h.numbers number channel peer s.1.one s.1.awaits)

    is_bound : (x : Allocation) → AwaitsChannel h.numbers number channel peer x → IsBoundTo channel peer (bound_in_one channel peer number now x)
    is_bound x is = record {
      standing = granted_to channel peer now;
      first = found_last (is_numbered channel) x.channels (granted_to channel peer now) is.free (eq-eqb channel channel refl);
      number = refl;
      to = refl;
    }

    holds_after : (client : auth.Client) → HoldsChannel b channel peer (bound a.transport channel peer (ip client) number now (k client))
    unfolding bound accepted
    holds_after client = (
        let like = after_like p.agent reply p.server in
        let s = permitted_so (ip client) in
        record {
          settings = record {
            server = h.speaks.settings.server;
            remote = like.remote ∙ h.speaks.settings.remote;
            transport = like.transport ∙ h.speaks.settings.transport;
            here = like.here ∙ h.speaks.settings.here;
            waits = like.waits ∙ h.speaks.settings.waits;
            allocates = h.speaks.settings.allocates;
            families = h.speaks.settings.families;
            options = h.speaks.settings.options;
            pace = h.speaks.settings.pace;
            indications = h.speaks.settings.indications;
            usual = h.speaks.settings.usual;
          };
          phase = h.phase;
          allocation = bound_in_one channel peer number now s.one;
          only = bound_is (permitted_with (ip client) number now p.allocations, s);
          transport = s.transport ∙ (own b realm address (AChannel channel peer) request until beyond Counts p h).transport;
          occurs = s.occurs ∙ h.occurs;
          is = is_bound s.one s.awaits;
        })

    pub binds : (handled : Bool) (q : Protocol) → IsProcessed p reply now handled q → (handled ≡ true) × HoldsChannel b channel peer q
    binds handled q processed =
        let r = answers b realm address (AChannel channel peer) request until beyond now Counts p h reply shows claims g handled q processed in
        let done = bound_so r.client handled q (by_method r.client handled q r.answered) in
        (done.0, subst (λ (x : Protocol). HoldsChannel b channel peer x) (sym done.1) (holds_after r.client))

    -- Then it has answered no challenge in a row.
    none_after : (client : auth.Client) → (bound a.transport channel peer (ip client) number now (k client)).resends ≡ 0
    unfolding bound accepted
    none_after client = refl

    pub none_counted : (handled : Bool) (q : Protocol) → IsProcessed p reply now handled q → q.resends ≡ 0
    none_counted handled q processed =
        let r = answers b realm address (AChannel channel peer) request until beyond now Counts p h reply shows claims g handled q processed in
        let done = bound_so r.client handled q (by_method r.client handled q r.answered) in
        ap (λ (x : Protocol). x.resends) done.1 ∙ none_after r.client

-- ---- what it says of it

paired : (channel : ℕ) (peer : SocketAddr) (c : Channel) (l : List Channel) → IsIn c l → c.number ≡ channel → c.peer ≡ peer → IsIn (channel, peer) (pairs_of l)
paired channel peer c [] listed number to = absurd listed
paired channel peer c (x ∷ l) (inl same) number to = inl (ap (λ (y : Channel). (y.number, y.peer)) same ∙ Prim.cc (number, to))
paired channel peer c (x ∷ l) (inr later) number to = inr (paired channel peer c l later number to)

pub shows_it : (b : Beginning) (channel : ℕ) (peer : SocketAddr) (p : Protocol) → HoldsChannel b channel peer p → IsIn (channel, peer) (channels_listed p.allocations)
shows_it b channel peer p h =
    let c = h.is.standing in
    let listed = found_in (is_numbered channel) h.allocation.channels c h.is.first in
    let visible : channels_of h.allocation ≡ h.allocation.channels = (let occurs = h.occurs in rw occurs refl) in
    let all : channels_listed p.allocations ≡ pairs_of h.allocation.channels = ap channels_listed h.only ∙ (append-nil (pairs_of (channels_of h.allocation)) ∙ ap pairs_of visible) in
    subst (λ (l : List (ℕ × SocketAddr)). IsIn (channel, peer) l) (sym all) (paired channel peer c h.allocation.channels listed h.is.number h.is.to)

-- ---- what it gives

-- A frame of a channel, which is no message.
pub frame_given : (b : Beginning) (channel : ℕ) (peer : SocketAddr) (p : Protocol) → HoldsChannel b channel peer p → (payload bytes : List ℕ) → IsFrameOf channel payload bytes → is_none (refusal bytes) ≡ false
    → payload_of p bytes ≡ Some (Framed channel b.config.transport peer channel_header_size (channel_header_size + length payload))
unfolding payload_of payload_framed
frame_given b channel peer p h payload bytes f no_message =
    let a = h.allocation in
    let here : bound_in channel a ≡ Some (a.transport, h.is.standing.peer) = ap (option_map (λ (c : Channel). (a.transport, c.peer))) h.is.first in
    let found : find (λ (x : Allocation). is_some (bound_in channel x)) (a ∷ []) ≡ Some a = one_found (λ (x : Allocation). is_some (bound_in channel x)) a (ap is_some here) in
    let to : bound_to channel p.allocations ≡ Some (b.config.transport, peer) =
    ap (λ (l : List Allocation). bound_to channel l) h.only ∙ (ap (λ (o : Option Allocation). option_and_then (bound_in channel) o) found ∙ (here ∙ Prim.cc (h.transport, h.is.to))) in
    let lawful : is_none (channel_refusal bytes) ≡ true = ap is_none f.lawful in
    let framed : payload_framed p bytes ≡ option_map (framed_by (frame_at bytes)) (bound_to (frame_at bytes).id p.allocations) = rw lawful refl in
    let of : option_map (framed_by (frame_at bytes)) (bound_to (frame_at bytes).id p.allocations) ≡ option_map (framed_by (record { id = channel; payload = payload })) (bound_to channel p.allocations) =
    ap (λ (x : Frame). option_map (framed_by x) (bound_to x.id p.allocations)) f.is in
    let reads : payload_of p bytes ≡ payload_framed p bytes = rw no_message refl in
    reads ∙ (framed ∙ (of ∙ ap (option_map (framed_by (record { id = channel; payload = payload }))) to))
