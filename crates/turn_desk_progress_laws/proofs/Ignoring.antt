-- What a hardened client over UDP does with a datagram that an attacker made: nothing.
use Rattle.std.proofs.Common.{◌≡◌, ◌≢◌, ℕ, Bool, true, false, List, [], Option, Some, None, refl, sym, ap, ◌∙◌, subst, ◌⊎◌, inl, inr}
use Rattle.std.specs.Prelude.{◌&&◌, Vec, MatchOption, is_none, is_some, not, if◌then◌else◌}
use Rattle.std.specs.Borrow.{Bor}
use Rattle.std.specs.Bool.{MatchBool}
use Rattle.std.specs.FinMap as map
use Rattle.std.specs.Option.{option_map}
use Rattle.std.specs.declared.alloc.Global.{Global}
use Rattle.std.specs.declared.net.ip_addr.IpAddr.{IpAddr}
use Rattle.std.specs.declared.net.socket_addr.SocketAddr.{SocketAddr}
use Rattle.std.specs.Net.Socket.{socket_ip}
use Rattle.std.proofs.lemmas.Bool.{and_left, and_right}
use Rattle.turn_desk_core.specs.StunTypesBase.declared.transmit.Transmit.{Transmit}
use Rattle.turn_desk_core.specs.StunTypesBase.declared.transport.TransportType.{TransportType}
use Rattle.turn_desk_core.specs.StunTypesWire.Attributes.{kind_at}
use Rattle.turn_desk_core.specs.StunTypesWire.Grammar.{number_at, refusal}
use Rattle.turn_desk_core.specs.StunTypesWire.Types.{class_of, is_response_class}
use Rattle.turn_desk_core.specs.StunTypesWire.declared.class.MessageClass.{MessageClass}
use Rattle.turn_desk_core.specs.StunTypesWire.declared.class.MessageClass.TheVariants.{Error, Indication as IndicationClass, Request, Success}
use Rattle.turn_desk_core.specs.StunTypesWire.declared.error.StunParseError.{StunParseError}
use Rattle.turn_client_proto_messages.specs.TurnTypesFrame.ChannelFrames.{channel_refusal, frame_at}
use Rattle.turn_client_proto_messages.specs.TurnRuns.Indications.{is_data, is_indication, peer_reported}
use Rattle.turn_client_proto_api.specs.StunProtoAgent.Handling.{is_awaited, is_response}
use Rattle.turn_client_proto_api.specs.declared.answer.TurnRecvRet.{TurnRecvRet}
use Rattle.turn_client_proto_api.specs.declared.answer.TurnRecvRet.TheVariants as recv
use Rattle.turn_client_proto_messages.specs.Allocation.Awaited.{has_number}
use Rattle.turn_client_proto_handshake_laws.specs.Core.Authenticating.{IsFirstJudged, IsSignedJudged}
use Rattle.turn_client_proto_handshake_laws.specs.Core.Deleting.{is_authenticated}
use Rattle.turn_client_proto_handshake_laws.specs.Core.Attempting.{IsIndicationTaken, after_offer, takes_offer}
use Rattle.turn_client_proto_handshake_laws.specs.Core.Outcomes.{IsHandled, IsIgnored}
use Rattle.turn_client_proto_handshake_laws.specs.Core.Receiving.{IsFollowed, IsProcessed, IsProcessedIn, is_unawaited}
use Rattle.turn_client_proto_handshake_laws.specs.Core.Standing.{IsJudgedStanding}
use Rattle.turn_client_proto_handshake_laws.specs.Core.declared.protocol.Phase.{Phase}
use Rattle.turn_client_proto_handshake_laws.specs.Core.declared.protocol.Phase.TheVariants.{Initial, InitialSent, Authenticating, Authenticated, Ended}
use Rattle.turn_client_proto_step_laws.specs.Payload.declared.payload.Payload.{Payload}
use Rattle.turn_client_proto_step_laws.specs.Payload.Payloads.{bound, carried_for, carried_over, framed_by, payload_framed, payload_of, payload_reported, permitted}
use Rattle.turn_client_proto_step_laws.specs.Recv.Control.{Control, Datagrams}
use Rattle.turn_client_proto_step_laws.specs.Recv.ClientState.{ClientState, Protocol}
use Rattle.turn_client_proto_step_laws.specs.Recv.Datagrams.{Foreign, Processed, IsDatagramTaken, IsDelivered, IsMessageTaken, IsOfServer, IsRead, Lost, Own}
use Rattle.turn_client_proto_handshake_laws.specs.Sent.{Beginning, first_number}
use Rattle.turn_client_proto_handshake_laws.proofs.Only.{where_false, where_true}
use Rattle.turn_desk_event.specs.declared.answer.Answer.{Answer}
use Rattle.turn_desk_event.specs.declared.event.Event.TheVariants.{ToClient}
use Rattle.turn_desk_world_laws.specs.World.Calls.{IsFed, IsReported}
use Rattle.turn_desk_world_laws.specs.World.Model.{World}
use Rattle.turn_desk_world_laws.specs.World.Runs.{IsStep}
use Rattle.turn_desk_progress_laws.specs.Forged.{IsInvented, NoMessage, Indication, Response, second_number}
use Rattle.turn_desk_progress_laws.specs.Promises.{event_in, over}
use Rattle.turn_desk_progress_laws.proofs.Clients.{Rests, done, same_world, stays}
use Rattle.turn_desk_progress_laws.proofs.Coming.{silent}

-- ---- classes of messages

no_response : (c : MessageClass) → is_indication c ≡ true → is_response_class c ≡ false
no_response Request is = absurd (Prim.cc is)
no_response IndicationClass is = refl
no_response Success is = absurd (Prim.cc is)
no_response Error is = absurd (Prim.cc is)

-- ---- what is ignored

-- A response to no outstanding request, if the client is hardened.
pub unawaited : (p : Protocol) (bytes : List ℕ) (now : ℕ) (handled : Bool) (q : Protocol) → p.auth.hardened ≡ true → is_response bytes ≡ true → map.get p.agent.outstanding (number_at bytes) ≡ None
    → IsProcessed p bytes now handled q → q ≡ p
unfolding is_unawaited
unawaited p bytes now handled q hardened response none is =
    let so : is_unawaited p bytes ≡ true = ap (λ (x : Bool). x && (is_response bytes && not (is_awaited p.agent bytes))) hardened
    ∙ (ap (λ (x : Bool). x && not (is_awaited p.agent bytes)) response ∙ ap (λ (x : Bool). not x) (ap is_some none)) in
    (where_true (IsIgnored p handled q) (IsProcessedIn p.phase p bytes now handled q) (is_unawaited p bytes) so is).1

-- An indication, before the server has allocated or if the client accepts none.
abbrev IsDeaf : Phase → Protocol → Type 0
IsDeaf phase p = (is_authenticated phase ≡ false) ⊎ (p.attempt_indications ≡ false)

indication_ignored : (p : Protocol) (bytes : List ℕ) (now : ℕ) (handled : Bool) (q : Protocol) → IsDeaf p.phase p → is_indication (class_of (kind_at bytes)) ≡ true → IsProcessed p bytes now handled q → q ≡ p
unfolding is_unawaited
indication_ignored p bytes now handled q deaf indication is =
    by p.phase deaf (where_false (IsIgnored p handled q) (IsProcessedIn p.phase p bytes now handled q) (is_unawaited p bytes) so is)
  where
    none : is_response bytes ≡ false
    none = no_response (class_of (kind_at bytes)) indication

    so : (p.auth.hardened && (is_response bytes && not (is_awaited p.agent bytes))) ≡ false
    so = and_right p.auth.hardened (is_response bytes && not (is_awaited p.agent bytes)) (and_left (is_response bytes) (not (is_awaited p.agent bytes)) none)

    by : (f : Phase) → IsDeaf f p → IsProcessedIn f p bytes now handled q → q ≡ p
    by Initial deaf' ignored = ignored.1
    by (InitialSent numbers) deaf' ignored = (where_false (IsFollowed IsFirstJudged p bytes now handled q) (IsIgnored p handled q) (is_response bytes) none ignored).1
    by (Authenticating numbers) deaf' ignored = (where_false (IsFollowed IsSignedJudged p bytes now handled q) (IsIgnored p handled q) (is_response bytes && has_number (number_at bytes) numbers)
        (and_left (is_response bytes) (has_number (number_at bytes) numbers) none) ignored).1
    by Authenticated (inl early) taken = absurd (Prim.cc early)
    by Authenticated (inr off) taken = (where_false (IsHandled (after_offer bytes p) handled q) (IsIgnored p handled q) (takes_offer p bytes) (and_left p.attempt_indications _ off)
        (where_true (IsIndicationTaken p bytes handled q) (IsFollowed IsJudgedStanding p bytes now handled q) (is_indication (class_of (kind_at bytes))) indication taken)).1
    by Ended deaf' ignored = ignored.1

-- The client has this server, no channel and no permission, and ignores responses with other transaction IDs
-- than its two.
pub record Ignores (b : Beginning) (bytes : List ℕ) (p : Protocol) : Type 0 where
  pub server : p.server ≡ b.server
  pub deaf : (is_authenticated p.phase ≡ false) ⊎ (p.attempt_indications ≡ false)
  pub unbound : (id : ℕ) → bound id p.allocations ≡ None
  pub closed : (ip : IpAddr) → permitted ip p.allocations ≡ None
  pub responses : is_response bytes ≡ true → number_at bytes ≢ first_number b → number_at bytes ≢ second_number b → (now : ℕ) (handled : Bool) (q : Protocol) → IsProcessed p bytes now handled q → q ≡ p

module _ (b : Beginning) (bytes : List ℕ) (p : Protocol) (i : Ignores b bytes p) where
  carries_none : (peer : Option SocketAddr) → carried_for p.allocations bytes peer ≡ None
  carries_none None = refl
  carries_none (Some peer) = ap (carried_over bytes peer) (i.closed (socket_ip peer))

  no_report : payload_reported p bytes ≡ None
  unfolding payload_reported
  no_report = by (is_authenticated p.phase && is_data bytes)
    where
      by : (x : Bool) → (if x then carried_for p.allocations bytes (peer_reported bytes) else None) ≡ None
      by true = carries_none (peer_reported bytes)
      by false = refl

  no_frame : payload_framed p bytes ≡ None
  unfolding payload_framed
  no_frame = by (is_none (channel_refusal bytes))
    where
      by : (x : Bool) → (if x then option_map (framed_by (frame_at bytes)) (bound (frame_at bytes).id p.allocations) else None) ≡ None
      by true = ap (option_map (framed_by (frame_at bytes))) (i.unbound (frame_at bytes).id)
      by false = refl

  -- Such bytes deliver nothing.
  no_payload : payload_of p bytes ≡ None
  unfolding payload_of
  no_payload = by (is_none (refusal bytes))
    where
      by : (x : Bool) → (if x then payload_reported p bytes else payload_framed p bytes) ≡ None
      by true = no_report
      by false = no_frame

  -- A message of this kind is ignored.
  message_ignored : IsInvented b bytes → refusal bytes ≡ None → (now : ℕ) (handled : Bool) (q : Protocol) → IsProcessed p bytes now handled q → q ≡ p
  message_ignored (NoMessage none) message now handled q is = absurd (none message)
  message_ignored (Indication message indication) _ now handled q is = indication_ignored p bytes now handled q i.deaf indication is
  message_ignored (Response message response not_first not_second) _ now handled q is = i.responses response not_first not_second now handled q is

  module _ (came : Transmit (Bor (List ℕ))) (same : came.bytes.now ≡ bytes) (now : ℕ) (took : TurnRecvRet (Bor (List ℕ))) (ret : Answer) (reported : IsReported took ret) (q : Protocol) where
    -- A failed allocation has no result.
    never_lost : took ≡ recv.NoMemory came → q ≡ p
    never_lost lost = absurd (subst (λ (t : TurnRecvRet (Bor (List ℕ))). IsReported t ret) lost reported)

    taken : IsInvented b bytes → IsMessageTaken p bytes came now took q → refusal bytes ≡ None → q ≡ p
    taken invented (Processed handled processed as_it) message = message_ignored invented message now handled q processed
    taken invented (Lost lost grows failed) message = never_lost lost

    read : IsInvented b bytes → (o : Option StunParseError) → refusal bytes ≡ o → IsRead o p bytes came now took q → q ≡ p
    read invented None message is = taken invented is message
    read invented (Some error) none is = is.1

    received : (came.from ≢ b.server) ⊎ IsInvented b bytes → IsDatagramTaken (λ (x : Bor (List ℕ)). x.now) p came now took q → q ≡ p
    received made (Foreign foreign back) = back.1
    received (inl elsewhere) (Own server is) = absurd (elsewhere (server.from ∙ i.server))
    received (inr invented) (Own server is) =
        let of = subst (λ (l : List ℕ). MatchOption (payload_of p l) (IsRead (refusal l) p l came now took q) (λ (payload : Payload). IsDelivered (λ (x : Bor (List ℕ)). x.now) came payload took × (q ≡ p))) same is in
        let none = subst (λ (o : Option Payload). MatchOption o (IsRead (refusal bytes) p bytes came now took q) (λ (payload : Payload). IsDelivered (λ (x : Bor (List ℕ)). x.now) came payload took × (q ≡ p))) no_payload of in
        read invented (refusal bytes) refl none

-- ---- in a simulation

module _ (b : Beginning) (w v : World) (p : Protocol) (bytes : Vec ℕ Global) (from to : SocketAddr) (now : ℕ) (ret : Answer) (i : Ignores b bytes.items p) (made : (from ≢ b.server) ⊎ IsInvented b bytes.items) where
  fed : (after : ClientState) → IsFed ret (over Datagrams p) bytes.items from to now after → (after ≡ over Datagrams p) × (event_in ret ≡ [])
  fed after is =
      let from_so = subst (λ (a : SocketAddr). (a ≢ b.server) ⊎ IsInvented b bytes.items) (sym is.from_is) made in
      let core : after.core ≡ p = received b bytes.items p i is.came is.bytes_are now is.took ret is.reported after.core from_so is.received.0 in
      (stays Datagrams after is.received.1 ∙ ap (over Datagrams) core, silent is.took ret is.reported)

  -- The datagram changes nothing.
  pub forged_rests : w.client ≡ Some (over Datagrams p) → IsStep (ToClient bytes from to now) w ret v → Rests ret w v
  forged_rests at step =
      let d = done Datagrams now _ p w.client v.client ret at step.0 in
      elim d.outcome [
        | inl does ↦ (let f = fed d.after does.1 in record { same = same_world w v step.1 (d.there ∙ ap Some f.0 ∙ sym at); silent = f.1 })
        | inr out ↦ record { same = same_world w v step.1 (d.there ∙ ap Some out.1 ∙ sym at); silent = ap event_in out.0 }
      ]
