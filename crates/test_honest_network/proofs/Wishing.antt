-- What a client with an allocation transmits after a call.
use Rattle.std.proofs.Common.{◌≡◌, ℕ, ◌++◌, false, List, [], ◌∷◌, Option, Some, None, refl, sym, ap, ◌∙◌, subst}
use Rattle.std.specs.Prelude.{IfNone, IfSome, MatchOption, MatchResult, Result, Ok, Err}
use Rattle.std.specs.FinMap as finite
use Rattle.std.specs.declared.net.ip_addr.IpAddr.{IpAddr}
use Rattle.std.specs.declared.net.socket_addr.SocketAddr.{SocketAddr}
use Rattle.stun_types_wire.specs.Grammar.{number_at}
use Rattle.stun_types_base.specs.declared.transport.TransportType.{TransportType}
use Rattle.turn_client_proto_api.specs.declared.error.BindChannelError.{BindChannelError}
use Rattle.turn_client_proto_api.specs.declared.error.BindChannelError.TheVariants as not_bound
use Rattle.turn_client_proto.specs.Core.Binding.{IsBindAnswered, IsBindTried, IsChannelRequested, after_binding, allocation_to, bind_refusal, bind_refused_in}
use Rattle.turn_client_proto_api.specs.declared.error.CreatePermissionError.{CreatePermissionError}
use Rattle.turn_client_proto_api.specs.declared.error.CreatePermissionError.TheVariants as not_permitted
use Rattle.turn_client_proto.specs.Core.Asking.{requested, queued_request}
use Rattle.turn_client_proto.specs.Core.Numbering.{after_number}
use Rattle.turn_client_proto.specs.Core.Permitting.{IsPermissionAnswered, IsPermissionRequested, after_asking, allocation_for, permission_refusal, refused_in}
use Rattle.turn_desk_progress_laws.specs.TurnClientProtoMessages.Requests.{request_text}
use Rattle.turn_desk_progress_laws.specs.TurnClientProtoMessages.declared.request.TurnRequest.TheVariants.{ChannelBind, CreatePermission as PermissionRequest}
use Rattle.turn_desk_progress_laws.specs.TurnClientProtoMessages.Waiting.{Queued}
use Rattle.turn_client_proto_api.specs.StunProtoAgent.Sending.{started, with_request}
use Rattle.turn_client_proto.specs.Core.declared.protocol.Phase.{Phase}
use Rattle.turn_client_proto.specs.Core.declared.protocol.Phase.TheVariants.{Authenticated}
use Rattle.turn_client_proto.specs.Core.declared.protocol.Protocol.{Protocol}
use Rattle.turn_client_proto.specs.Timers.Drawing.{Again, Fresh, IsStarted, IsTransmitted, IsNextSent, IsRenewed, is_resting}
use Rattle.turn_client_proto.specs.Timers.Polling.{pace_of}
use Rattle.turn_client_proto_api.specs.Sent.{Sent}
use Rattle.turn_client_proto.specs.Timers.Wanting.{wanted}
use Rattle.turn_client_proto.specs.Timers.declared.wanting.Want.{Want}
use Rattle.turn_client_proto.specs.Timers.declared.wanting.Want.TheVariants as want
use Rattle.turn_desk_progress_laws.specs.TurnClientProtoProgressLaws.Asking.{IsMade}
use Rattle.turn_desk_progress_laws.proofs.TurnClientProtoProgressLaws.Asking.Tools.{put_there, where_false}

-- ---- a client that has nothing to send

by_wish : (w : Option Want) (p q : Protocol) (now : ℕ) → IsRenewed w p now None q → q ≡ p
by_wish None p q now is = is.1
by_wish (Some want.Refresh) p q now is = absurd is
by_wish (Some (want.Channel channel peer)) p q now is = absurd is
by_wish (Some (want.Permission ip)) p q now is = absurd is

by_phase : (phase : Phase) (p q : Protocol) (now : ℕ) → phase ≡ Authenticated → IsStarted phase p now None q → q ≡ p
by_phase phase p q now on is = by_wish (wanted now p.allocations) p q now (subst (λ (f : Phase). IsStarted f p now None q) on is)

by_queue : (queue : List Queued) (p q : Protocol) (now : ℕ) → p.phase ≡ Authenticated → IsNextSent queue p now None q → (queue ≡ []) × (q ≡ p)
by_queue (first ∷ rest) p q now on is = absurd is
by_queue [] p q now on is = (refl, by_phase p.phase p q now on is)

pub rested : (p q : Protocol) (now : ℕ) → p.phase ≡ Authenticated → is_resting (pace_of p) p.last_send now ≡ false → IsTransmitted p now None q → (p.queue ≡ []) × (q ≡ p)
rested p q now on free (Again sent said is) = absurd (Prim.cc said)
rested p q now on free (Fresh none is) = by_queue p.queue p q now on (where_false _ _ (is_resting (pace_of p) p.last_send now) free is)

-- ---- something was requested of it

-- The client's request is outstanding and is queued to be transmitted.
pub record HasMade (p q : Protocol) (text : List ℕ) (made : ℕ) : Type 0 where
  pub agent : q.agent ≡ with_request p.agent text p.server made
  pub queue : q.queue ≡ p.queue ++ queued_request p.agent.here text ∷ []
  pub last : q.last_send ≡ p.last_send
  pub pace : pace_of q ≡ pace_of p

made_so : (p q : Protocol) (transport : TransportType) (ip : IpAddr) (made : ℕ) → (is : IsPermissionRequested p transport ip [] made q) → HasMade p q (request_text p.auth (PermissionRequest (ip ∷ [])) is.number) made
unfolding after_asking requested
made_so p q transport ip made is = record {
  agent = ap (λ (x : Protocol). x.agent) is.after;
  queue = ap (λ (x : Protocol). x.queue) is.after;
  last = ap (λ (x : Protocol). x.last_send) is.after;
  pace = ap pace_of is.after;
}

abbrev ok : Result (Unit {0}) CreatePermissionError
ok = Ok tt

requested_so : (p q : Protocol) (transport : TransportType) (ip : IpAddr) (made : ℕ) (why : Option CreatePermissionError) → IfSome why (λ error. (ok ≡ Err error) × (q ≡ refused_in (allocation_for transport ip p) transport ip made p))
    → IfNone why (MatchResult ok (λ _. IsPermissionRequested p transport ip [] made q) (λ error. (error ≡ not_permitted.NoMemory) × (q ≡ after_number p))) → IsPermissionRequested p transport ip [] made q
requested_so p q transport ip made (Some error) refused asks = absurd (Prim.cc refused.0)
requested_so p q transport ip made None refused asks = asks

pub permission_made : (p q : Protocol) (transport : TransportType) (ip : IpAddr) (made : ℕ) → IsPermissionAnswered p transport ip made (Ok tt) q → (text : List ℕ) × HasMade p q text made
permission_made p q transport ip made is =
    let asks = requested_so p q transport ip made (permission_refusal p transport ip made) is.refused is.requested in
    (request_text p.auth (PermissionRequest (ip ∷ [])) asks.number, made_so p q transport ip made asks)

bound_so : (p q : Protocol) (transport : TransportType) (peer : SocketAddr) (channel made : ℕ) → (is : IsChannelRequested p transport peer channel made q) → HasMade p q (request_text p.auth (ChannelBind channel peer) is.number) made
unfolding after_binding requested
bound_so p q transport peer channel made is = record {
  agent = ap (λ (x : Protocol). x.agent) is.after;
  queue = ap (λ (x : Protocol). x.queue) is.after;
  last = ap (λ (x : Protocol). x.last_send) is.after;
  pace = ap pace_of is.after;
}

abbrev bound : Result (Unit {0}) BindChannelError
bound = Ok tt

tried_so : (p q : Protocol) (transport : TransportType) (peer : SocketAddr) (made : ℕ) (free : Option ℕ) → MatchOption free ((bound ≡ Err not_bound.NoChannel) × (q ≡ p))
    (λ channel. MatchResult bound (λ _. IsChannelRequested p transport peer channel made q) (λ error. (error ≡ not_bound.NoMemory) × (q ≡ after_number p))) → (channel : ℕ) × IsChannelRequested p transport peer channel made q
tried_so p q transport peer made None is = absurd (Prim.cc is.0)
tried_so p q transport peer made (Some channel) is = (channel, is)

bind_so : (p q : Protocol) (transport : TransportType) (peer : SocketAddr) (made : ℕ) (why : Option BindChannelError) → IfSome why (λ error. (bound ≡ Err error) × (q ≡ bind_refused_in (allocation_to transport peer p) transport peer made p))
    → IfNone why (IsBindTried p transport peer made bound q) → (channel : ℕ) × IsChannelRequested p transport peer channel made q
bind_so p q transport peer made (Some error) refused tried = absurd (Prim.cc refused.0)
bind_so p q transport peer made None refused tried = tried_so p q transport peer made tried.free tried.outcome

pub channel_made : (p q : Protocol) (transport : TransportType) (peer : SocketAddr) (made : ℕ) → IsBindAnswered p transport peer made (Ok tt) q → (text : List ℕ) × HasMade p q text made
channel_made p q transport peer made is =
    let asks = bind_so p q transport peer made (bind_refusal p transport peer made) is.refused is.tried in
    (request_text p.auth (ChannelBind asks.0 peer) asks.1.number, bound_so p q transport peer asks.0 made asks.1)

-- ---- its request is transmitted

module _ (p q : Protocol) (text : List ℕ) (made : ℕ) (is_made : HasMade p q text made) (none : (number : ℕ) → finite.get p.agent.outstanding number ≡ None) (empty : p.queue ≡ []) where
  waits : q.queue ≡ queued_request p.agent.here text ∷ []
  waits = is_made.queue ∙ ap (λ (l : List Queued). l ++ queued_request p.agent.here text ∷ []) empty

  pub transmitted : (after : Protocol) (now : ℕ) (sent : Sent) → is_resting (pace_of q) q.last_send now ≡ false → IsTransmitted q now (Some sent) after → IsMade p q sent.bytes
  transmitted after now sent free (Again other said is) = record {
    number = is.number;
    transaction = is.transaction;
    there = is.least.present;
    none = none is.number;
    bytes = Prim.cc (said, is.is_sent);
  }
  transmitted after now sent free (Fresh due is) =
      let next = where_false _ _ (is_resting (pace_of q) q.last_send now) free is in
      let first = subst (λ (l : List Queued). IsNextSent l q now (Some sent) after) waits next in
      record {
        number = number_at text;
        transaction = started p.agent text p.server made;
        there = ap (λ a. finite.get a.outstanding (number_at text)) is_made.agent ∙ put_there p.agent.outstanding (number_at text) (started p.agent text p.server made);
        none = none (number_at text);
        bytes = sym (ap (λ (x : Sent). x.bytes) first.is_sent);
      }
