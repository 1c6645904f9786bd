-- What a client transmits and the client afterwards are determined.
use Rattle.std.proofs.Common.{◌≡◌, ℕ, List, [], ◌∷◌, Option, Some, None, sym, ap, ◌∙◌}
use Rattle.std.specs.List.{find}
use Rattle.std.specs.declared.net.ip_addr.IpAddr.{IpAddr}
use Rattle.std.specs.declared.net.socket_addr.SocketAddr.{SocketAddr}
use Rattle.turn_client_proto_timers.specs.StunProtoTransaction.Agents.{Transaction, transmitted}
use Rattle.turn_client_proto_timers.specs.StunProtoAgent.Sending.{NoneDue, is_due_of, stored_under}
use Rattle.turn_client_proto_timers.specs.StunProtoAgent.State.{is_tcp}
use Rattle.turn_client_proto_timers.specs.Drawing.{Again, Fresh, IsAnswerSent, IsStarted, IsChannelRenewalSent, IsTransmitted, IsFirstSent, IsFreshSent, IsMade, IsNextSent, IsQueuedSent, IsRefreshSent, IsRenewalSent, IsRenewed, IsRepeated, IsStill, Sends, after_sending, first_allocated, first_bound, first_permitted, first_refreshed, is_resting}
use Rattle.turn_client_proto_timers.specs.Polling.{pace_of}
use Rattle.turn_client_proto_timers.specs.Api.Sent.{Sent}
use Rattle.turn_client_proto_timers.specs.Wanting.{wanted}
use Rattle.turn_client_proto_timers.specs.declared.wanting.Want.{Want}
use Rattle.turn_client_proto_timers.specs.declared.wanting.Want.TheVariants.{Refresh, Channel, Permission}
use Rattle.turn_client_proto_timers.specs.Messages.Requests.{request_text}
use Rattle.turn_client_proto_timers.specs.Messages.declared.request.TurnRequest.{TurnRequest}
use Rattle.turn_client_proto_timers.specs.Messages.declared.request.TurnRequest.TheVariants.{ChannelBind, CreatePermission, FirstAllocate}
use Rattle.turn_client_proto_timers.specs.Messages.declared.request.TurnRequest.TheVariants.{Refresh as RefreshRequest}
use Rattle.turn_client_proto_timers.specs.Answering.{without_answer}
use Rattle.turn_client_proto_timers.specs.Messages.Waiting.{Queued, is_answer}
use Rattle.turn_client_proto_timers.specs.Core.declared.protocol.Phase.{Phase}
use Rattle.turn_client_proto_timers.specs.Core.declared.protocol.Phase.TheVariants.{Initial, InitialSent, Authenticating, Authenticated, Ended}
use Rattle.turn_client_proto_timers.specs.Core.declared.protocol.Protocol.{Protocol}
use Rattle.turn_client_proto_step_laws.proofs.Once.Outcomes.{IsDefinite, only, tested}
use Rattle.turn_client_proto_step_laws.proofs.Once.Least.{least_number, least_value}
use Rattle.turn_client_proto_step_laws.proofs.Once.Numbering.{next_same}

-- Something is transmitted, and it is determined.
sends : {Is : Sent → Protocol → Type 0} → IsDefinite Is → IsDefinite (λ (answer : Option Sent) (new : Protocol). Sends answer (λ sent. Is sent new))
sends {Is} definite = record { same = λ answer again one other a b. both answer again one other a b }
  where
    both : (answer again : Option Sent) (one other : Protocol) → Sends answer (λ sent. Is sent one) → Sends again (λ sent. Is sent other) → (answer ≡ again) × (one ≡ other)
    both None again one other a b = absurd a
    both (Some sent) None one other a b = absurd b
    both (Some sent) (Some more) one other a b =
        let same = definite.same sent more one other a b in
        (ap (λ (s : Sent). Some s) same.0, same.1)

module _ (old : Protocol) (now : ℕ) where
  still_definite : IsDefinite (λ (answer : Option Sent) (new : Protocol). IsStill old answer new)
  still_definite = only None old

  -- A request that is made now, with the next transaction ID.
  abbrev made_sent : TurnRequest → ℕ → Sent
  made_sent request number = record { bytes = request_text old.auth request number; transport = old.agent.transport; from = old.agent.here; to = old.server }

  made_same : (request : TurnRequest) (after : ℕ → Protocol) (number other : ℕ) (sent more : Sent) (one two : Protocol) → IsMade old request number sent → IsMade old request other more
      → one ≡ after number → two ≡ after other → (sent ≡ more) × (one ≡ two)
  made_same request after number other sent more one two a b x y =
      let same : number ≡ other = next_same old number other a.is_next b.is_next in
      (a.is_sent ∙ ap (made_sent request) same ∙ sym b.is_sent, x ∙ ap after same ∙ sym y)

  first_definite : IsDefinite (λ (sent : Sent) (new : Protocol). IsFirstSent old now sent new)
  first_definite = record {
    same = λ sent more one other a b.
        made_same (FirstAllocate old.allocates old.families old.options) (λ n. after_sending now (first_allocated n now old)) a.number b.number sent more one other a.made b.made a.after b.after;
  }

  refresh_definite : IsDefinite (λ (sent : Sent) (new : Protocol). IsRefreshSent old now sent new)
  refresh_definite = record {
    same = λ sent more one other a b.
        made_same (RefreshRequest old.options.lifetime) (λ n. after_sending now (first_refreshed n now old)) a.number b.number sent more one other a.made b.made a.after b.after;
  }

  renewal_definite : (ip : IpAddr) → IsDefinite (λ (sent : Sent) (new : Protocol). IsRenewalSent old ip now sent new)
  renewal_definite ip = record {
    same = λ sent more one other a b.
        made_same (CreatePermission (ip ∷ [])) (λ n. after_sending now (first_permitted ip n now old)) a.number b.number sent more one other a.made b.made a.after b.after;
  }

  channel_definite : (channel : ℕ) (peer : SocketAddr) → IsDefinite (λ (sent : Sent) (new : Protocol). IsChannelRenewalSent old channel peer now sent new)
  channel_definite channel peer = record {
    same = λ sent more one other a b.
        made_same (ChannelBind channel peer) (λ n. after_sending now (first_bound channel peer n now old)) a.number b.number sent more one other a.made b.made a.after b.after;
  }

  queued_definite : (q : Queued) (rest : List Queued) → IsDefinite (λ (sent : Sent) (new : Protocol). IsQueuedSent old now q rest sent new)
  queued_definite q rest = record { same = λ sent more one other a b. (a.is_sent ∙ sym b.is_sent, a.after ∙ sym b.after) }

  -- The reply that is transmitted.
  abbrev answer_sent : Queued → Sent
  answer_sent q = record { bytes = q.bytes; transport = old.agent.transport; from = q.from; to = old.server }

  -- ---- where nothing is due again

  renewed_definite : (want : Option Want) → IsDefinite (IsRenewed want old now)
  renewed_definite None = still_definite
  renewed_definite (Some Refresh) = sends refresh_definite
  renewed_definite (Some (Channel channel peer)) = sends (channel_definite channel peer)
  renewed_definite (Some (Permission ip)) = sends (renewal_definite ip)

  started_definite : (phase : Phase) → IsDefinite (IsStarted phase old now)
  started_definite Initial = sends first_definite
  started_definite (InitialSent numbers) = still_definite
  started_definite (Authenticating numbers) = still_definite
  started_definite Authenticated = renewed_definite (wanted now old.allocations)
  started_definite Ended = still_definite

  next_definite : (queue : List Queued) → IsDefinite (IsNextSent queue old now)
  next_definite [] = started_definite old.phase
  next_definite (q ∷ rest) = sends (queued_definite q rest)

  answer_definite : (found : Option Queued) → IsDefinite (IsAnswerSent found old)
  answer_definite None = still_definite
  answer_definite (Some q) = only (Some (answer_sent q)) (record old { queue = without_answer old.queue })

  fresh_definite : IsDefinite (IsFreshSent old now)
  fresh_definite = tested (is_resting (pace_of old) old.last_send now) (answer_definite (find is_answer old.queue)) (next_definite old.queue)

  -- ---- a request that is due again

  abbrev repeated_sent : Transaction → Sent
  repeated_sent t = record { bytes = t.bytes; transport = old.agent.transport; from = old.agent.here; to = t.to }

  abbrev repeated : ℕ → Transaction → Protocol
  repeated number t = after_sending now (record old { agent = stored_under old.agent number (transmitted (is_tcp old.agent.transport) t) })

  repeated_same : (sent more : Sent) (one other : Protocol) → IsRepeated old now sent one → IsRepeated old now more other → (sent ≡ more) × (one ≡ other)
  repeated_same sent more one other a b =
      let number : a.number ≡ b.number = least_number (is_due_of old.agent now) old.agent.outstanding a.number b.number a.transaction b.transaction a.least b.least in
      let transaction : a.transaction ≡ b.transaction = least_value (is_due_of old.agent now) old.agent.outstanding a.number b.number a.transaction b.transaction a.least b.least in (
        a.is_sent ∙ ap repeated_sent transaction ∙ sym b.is_sent,
        a.after ∙ ap (λ (n : ℕ). repeated n a.transaction) number ∙ ap (repeated b.number) transaction ∙ sym b.after,
      )

  due_not : {A : Type 0} (sent : Sent) (new : Protocol) → IsRepeated old now sent new → NoneDue old.agent now → A
  due_not sent new is none = absurd (Prim.cc (sym (none is.number is.transaction is.least.present) ∙ is.least.passes))

  pub draw_same : (answer again : Option Sent) (one other : Protocol) → IsTransmitted old now answer one → IsTransmitted old now again other → (answer ≡ again) × (one ≡ other)
  draw_same answer again one other (Again sent reported is) (Again more known was) =
      let same = repeated_same sent more one other is was in
      (reported ∙ ap (λ (s : Sent). Some s) same.0 ∙ sym known, same.1)
  draw_same answer again one other (Again sent reported is) (Fresh none was) = due_not sent one is none
  draw_same answer again one other (Fresh none is) (Again more known was) = due_not more other was none
  draw_same answer again one other (Fresh none is) (Fresh never was) = fresh_definite.same answer again one other is was
