-- The first message that a new client transmits has the transaction ID at index 0 of its seed's stream.
use Rattle.std.proofs.Common.{◌≡◌, ℕ, ◌≤◌, true, false, List, [], length, Option, Some, ap, sym, ◌∙◌, subst, inl, inr}
use Rattle.std.specs.List.{find}
use Rattle.std.specs.declared.net.socket_addr.SocketAddr.{SocketAddr}
use Rattle.rand_chacha.specs.ChaCha.{of_seed}
use Rattle.turn_client_proto_timers.specs.StunTypesWire.Grammar.{number_at}
use Rattle.turn_client_proto_timers.specs.StunTypesWire.Registry.{longest_username}
use Rattle.turn_client_proto_timers.specs.StunTypesBase.declared.transport.TransportType.{TransportType}
use Rattle.turn_client_proto_timers.specs.Api.Config.{Config}
use Rattle.turn_client_proto_timers.specs.Drawing.{Again, Fresh, IsAnswerSent, IsStarted, IsTransmitted, IsFirstSent, IsNextSent, is_resting}
use Rattle.turn_client_proto_timers.specs.Polling.{pace_of}
use Rattle.turn_client_proto_timers.specs.Api.Sent.{Sent}
use Rattle.turn_client_proto_timers.specs.Messages.declared.request.TurnRequest.TheVariants.{FirstAllocate}
use Rattle.turn_client_proto_timers.specs.TurnRuns.StunWire.{stun_wire}
use Rattle.turn_client_proto_timers.specs.Core.Beginning.{IsNew}
use Rattle.turn_client_proto_timers.specs.Messages.Waiting.{Queued, is_answer}
use Rattle.turn_client_proto_timers.specs.Core.declared.protocol.Phase.{Phase}
use Rattle.turn_client_proto_timers.specs.Core.declared.protocol.Protocol.{Protocol}
use Rattle.turn_client_proto_step_laws.specs.Beginning.{first_client}
use Rattle.turn_client_proto_step_laws.specs.RunClient.{Client}
use Rattle.turn_client_proto_step_laws.specs.Sound.{CanAsk, IsSound, UntilEnded, stream_from}
use Rattle.turn_client_proto_step_laws.proofs.Asking.{at_first, made}
use Rattle.turn_client_proto_step_laws.proofs.Beginning.{new_sound, none_taken, none_there}
use Rattle.turn_client_proto_step_laws.proofs.Numbers.{IsAtIndex, number_at_index}
use Rattle.turn_client_proto_step_laws.proofs.Polling.{by_test}

module _ (transport : TransportType) (here server : SocketAddr) (config : Config) (seed : List ℕ) (p new : Protocol) (now : ℕ) (sent : Sent) (is : IsNew transport here server config seed p)
    (short : length config.credentials.username ≤ longest_username) (few : length config.families ≤ 2) where
  abbrev c : Client
  c = first_client config.credentials seed p

  abbrev IsFirst : Type 0
  IsFirst = number_at sent.bytes ≡ stun_wire.number (stream_from (of_seed seed)) 0

  sound : IsSound c
  sound = new_sound transport here server config seed p is short few

  can : CanAsk c
  can = subst (λ (f : Phase). UntilEnded f (CanAsk c)) is.phase sound.can_ask

  -- No transaction ID is taken, so it is that one.
  free : (number : ℕ) → IsAtIndex p c.seed c.transmitted number → number ≡ stun_wire.number c.seed c.transmitted
  free number (inl at) = at
  free number (inr taken) = absurd (none_taken transport here server config seed p is (stun_wire.number c.seed c.transmitted) taken)

  first : IsFirstSent p now sent new → IsFirst
  first h =
      let written = made c p (FirstAllocate p.allocates p.families p.options) h.number (at_first c [] sound.orderly can) h.lawful tt h.made.is_next in
      ap (λ (s : Sent). number_at s.bytes) h.made.is_sent ∙ written.number_is ∙ free h.number (number_at_index p c.seed c.transmitted h.number can.words h.made.is_next)

  next : IsNextSent p.queue p now (Some sent) new → IsFirst
  next h =
      first (subst (λ (f : Phase). IsStarted f p now (Some sent) new) is.phase
      (subst (λ (q : List Queued). IsNextSent q p now (Some sent) new) is.queue h))

  pub first_number : IsTransmitted p now (Some sent) new → IsFirst
  first_number (Again one same repeated) = none_there transport here server config seed p is repeated.number repeated.transaction repeated.least.present
  first_number (Fresh none h) =
      by_test (is_resting (pace_of p) p.last_send now)
      (λ (rests : is_resting (pace_of p) p.last_send now ≡ true) (_ : IsAnswerSent (find is_answer p.queue) p (Some sent) new).
      absurd (Prim.cc (sym (ap (λ (o : Option ℕ). is_resting (pace_of p) o now) is.last_send) ∙ rests)))
      (λ (_ : is_resting (pace_of p) p.last_send now ≡ false) is_next. next is_next) h
