-- What `poll_transmit` transmits is a step of a run.
use Rattle.std.proofs.Common.{◌≡◌, ℕ, true, false, List, [], ◌∷◌, Option, Some, None, refl, sym, ap, ◌∙◌, subst, arith, inl, inr}
use Rattle.std.specs.Option.{option_map}
use Rattle.turn_client_proto_timers.specs.StunTypesWire.Grammar.{refusal}
use Rattle.turn_client_proto_timers.specs.StunProtoAgent.Sending.{stored_under, with_request}
use Rattle.turn_client_proto_timers.specs.StunProtoTransaction.Agents.{transmitted}
use Rattle.turn_client_proto_timers.specs.StunProtoAgent.Numbers.{NothingNew}
use Rattle.turn_client_proto_timers.specs.StunProtoAgent.State.{Agent, is_tcp}
use Rattle.turn_client_proto_timers.proofs.StunProtoAgent.Numbers.{transmitted_new}
use Rattle.turn_client_proto_timers.specs.TurnRuns.Members.{IsIn}
use Rattle.turn_client_proto_timers.specs.TurnRuns.Messages as run
use Rattle.turn_client_proto_timers.specs.TurnRuns.Steps.{MayDraw}
use Rattle.turn_client_proto_timers.specs.TurnRuns.StunWire.{stun_wire, decoded_by}
use Rattle.std.specs.List.{find}
use Rattle.std.specs.declared.net.ip_addr.IpAddr.{IpAddr}
use Rattle.std.specs.declared.net.socket_addr.SocketAddr.{SocketAddr}
use Rattle.turn_client_proto_timers.specs.Answering.{without_answer}
use Rattle.turn_client_proto_timers.specs.Allocation.Refreshing.{refreshing}
use Rattle.turn_client_proto_timers.specs.Allocation.Channels.{wants_renewal}
use Rattle.turn_client_proto_timers.specs.Peers.Channel.Numbers.{AreDistinct}
use Rattle.turn_client_proto_timers.specs.Peers.Channel.Wanting as channels
use Rattle.turn_client_proto_timers.specs.Peers.Permission.Wanting.{renewing}
use Rattle.turn_client_proto_timers.specs.Wanting.{channel_renewal_first, refreshed_first, renewal_first, wanted, wants}
use Rattle.turn_client_proto_timers.specs.declared.wanting.Want.{Want}
use Rattle.turn_client_proto_timers.specs.declared.wanting.Want.TheVariants as want
use Rattle.turn_client_proto_timers.proofs.Peers.Distinct.{first_stay_distinct, renewing_uses_less}
use Rattle.turn_client_proto_timers.proofs.Messages.Peers.{peer_read}
use Rattle.turn_client_proto_timers.specs.Messages.Requests.{request_text}
use Rattle.turn_client_proto_timers.specs.Messages.declared.request.TurnRequest.{TurnRequest}
use Rattle.turn_client_proto_timers.specs.Messages.declared.request.TurnRequest.TheVariants.{ChannelBind, CreatePermission, FirstAllocate, Refresh}
use Rattle.turn_client_proto_timers.specs.Drawing.{Again, Fresh, IsAnswerSent, IsStarted, IsChannelRenewalSent, IsTransmitted, IsFirstSent, IsNextSent, IsQueuedSent, IsRefreshSent, IsRenewalSent, IsRenewed, IsRepeated, IsStill, Sends, after_sending, first_allocated, first_bound, first_permitted, first_refreshed, is_resting, sent_at_once}
use Rattle.turn_client_proto_timers.specs.Polling.{pace_of}
use Rattle.turn_client_proto_timers.specs.Api.Sent.{Sent}
use Rattle.turn_client_proto_timers.specs.Core.Numbering.{after_number}
use Rattle.turn_client_proto_timers.specs.Messages.Waiting.{Queued, is_answer}
use Rattle.turn_client_proto_timers.specs.Core.declared.protocol.Phase.{Phase}
use Rattle.turn_client_proto_timers.specs.Core.declared.protocol.Phase.TheVariants.{Initial, InitialSent, Authenticating, Authenticated, Ended}
use Rattle.turn_client_proto_timers.specs.Core.declared.protocol.Protocol.{Protocol}
use Rattle.turn_client_proto_step_laws.specs.ClientWords.{IsAnswered, client_words}
use Rattle.turn_client_proto_step_laws.specs.RunClient.{Client, Parts, parts_of}
use Rattle.turn_client_proto_step_laws.specs.RunSteps.{IsRunStep}
use Rattle.turn_client_proto_step_laws.specs.Sound.{AreAllocates, BeforeAllocated, CanAsk, IsReady, IsSound, UntilEnded}
use Rattle.turn_client_proto_step_laws.proofs.Adding.{AreLess, HasNumber, adds_both, agent_less, allocations_less, phase_moved, queue_less}
use Rattle.turn_client_proto_step_laws.proofs.Agents.{message_read}
use Rattle.turn_client_proto_step_laws.specs.Held.{Allocation, Channel}
use Rattle.turn_client_proto_step_laws.proofs.Asking as written
use Rattle.turn_client_proto_step_laws.proofs.Asking.{IsUnderWay, asks, at_first, made, sent_adds, sent_orderly}
use Rattle.turn_client_proto_step_laws.proofs.Binding as binding
use Rattle.turn_client_proto_step_laws.proofs.Ending.{still, still_can}
use Rattle.turn_client_proto_step_laws.proofs.Lessening.{first_less, one_awaited, same_first_distinct}
use Rattle.turn_client_proto_step_laws.proofs.Orderly.{IsAllocate, agent_orderly, allocations_orderly, before_all, transmitted_orderly, phase_orderly, until_map}
use Rattle.turn_client_proto_step_laws.proofs.Permissions.{first_permitting, renewing_permitting}
use Rattle.turn_client_proto_step_laws.proofs.Lists.{found_in, in_others, inside}
use Rattle.turn_client_proto_step_laws.proofs.Permits.{asks_by, channel_fit, made_number, permission_fit}
use Rattle.turn_client_proto_step_laws.proofs.Fitting.{AreFit, permitting_orderly}
use Rattle.turn_client_proto_step_laws.proofs.Permitting.{ArePermitting, allocations_permitting, none_gained}
use Rattle.turn_client_proto_step_laws.proofs.Plain.{counts_none, quiet, run_step}
use Rattle.turn_client_proto_step_laws.proofs.Polling.{by_test}
use Rattle.turn_client_proto_step_laws.proofs.Realms.{going_at, realm_going}
use Rattle.turn_client_proto_step_laws.proofs.Refreshing.{allocated, refresh_made, refresh_of, refresh_short}
use Rattle.turn_client_proto_step_laws.proofs.Wanting.{IsToRenew, first_to_renew, renewal_whole}

-- The bytes that are transmitted.
abbrev pub bytes_of : Option Sent → Option (List ℕ)
bytes_of answer = option_map (λ s. s.bytes) answer

shows_own : (own bytes : List ℕ) (m : run.Message) → Some own ≡ Some bytes → stun_wire.visible bytes ≡ Some m → stun_wire.visible own ≡ Some m
shows_own own bytes m same shows = subst (λ (b : List ℕ). stun_wire.visible b ≡ Some m) (sym (Prim.cc same)) shows

-- Nothing is transmitted.
rests : (c : Client) (answer : Option Sent) (new : Protocol) → IsSound c → IsStill c.core answer new → IsRunStep c [] (bytes_of answer) [] new
rests c answer new sound is = subst (λ (o : Option Sent). IsRunStep c [] (bytes_of o) [] new) (sym is.0) (still c [] new sound is.1)

-- ---- a request that is sent again

repeats : (c : Client) (now : ℕ) (sent : Sent) (new : Protocol) → IsSound c → IsRepeated c.core now sent new → IsRunStep c [] (Some sent.bytes) [] new
repeats c now sent new sound is =
    let agent : Agent = stored_under c.core.agent is.number (transmitted (is_tcp c.core.agent.transport) is.transaction) in
    let core : Protocol = after_sending now (record c.core { agent = agent }) in
    let none : NothingNew c.core.agent agent = transmitted_new c.core.agent agent now (inr (record { number = is.number; transaction = is.transaction; least = is.least; after = refl })) in
    let own : sent.bytes ≡ is.transaction.bytes = ap (λ (s : Sent). s.bytes) is.is_sent in
    subst (λ (p : Protocol). IsRunStep c [] (Some sent.bytes) [] p) (sym is.after)
    (run_step [] [] (Some sent.bytes) [] c c.transmitted core
    (quiet (Some sent.bytes) [] c c.transmitted core (counts_none c core refl) (λ realm h. inl h) (agent_less [] (parts_of c.core) agent none)
    (λ bytes m same shows. inl (inr (inl (record {
      number = is.number;
      transaction = is.transaction;
      there = is.least.present;
      shows = ap (λ (b : List ℕ). stun_wire.visible b) (sym own) ∙ shows_own sent.bytes bytes m same shows;
    })))) refl)
    (agent_orderly (parts_of c.core) agent none sound.orderly) (until_map c.core.phase (still_can c core refl refl refl refl) sound.can_ask))

-- ---- a message that waits

-- A queued message with these bytes may be transmitted.
waits_transmitted : (c : Client) (q : Queued) → IsReady q → IsIn q c.core.queue → (sent bytes : List ℕ) (m : run.Message) → sent ≡ q.bytes → Some sent ≡ Some bytes → stun_wire.visible bytes ≡ Some m → MayDraw client_words c [] m
waits_transmitted c q ready listed sent bytes m own same shows =
    let visible : stun_wire.visible q.bytes ≡ Some m = ap (λ (b : List ℕ). stun_wire.visible b) (sym own) ∙ shows_own sent bytes m same shows in
    let read : decoded_by q.bytes ≡ m = message_read (refusal q.bytes) (decoded_by q.bytes) m visible in
    elim ready [
      | inl request ↦ inl (inl (record { queued = q; listed = listed; is_request = request; shows = visible }))
      | inr answers ↦
          inr (inr (
            subst run.IsResponse (ap (λ (x : run.Message). x.class) read) answers.1,
            IsAnswered q listed answers.0 (ap (λ (x : run.Message). x.number) read),
          ))
    ]

-- The client that transmitted a queued message, with the rest of the queue.
waits_sent : (c : Client) (q : Queued) (rest : List Queued) (sent : List ℕ) (core : Protocol) → IsSound c → IsIn q c.core.queue → ((x : Queued) → IsIn x rest → IsIn x c.core.queue) → sent ≡ q.bytes
    → core ≡ record c.core { queue = rest; last_send = core.last_send } → IsRunStep c [] (Some sent) [] core
waits_sent c q rest sent core sound listed within own is =
    let after : Protocol = record c.core { queue = rest; last_send = core.last_send } in
    subst (λ (p : Protocol). IsRunStep c [] (Some sent) [] p) (sym is)
    (run_step [] [] (Some sent) [] c c.transmitted after
    (quiet (Some sent) [] c c.transmitted after (counts_none c after refl) (λ realm h. inl h) (queue_less (parts_of c.core) rest within)
    (λ bytes m same shows. waits_transmitted c q (sound.orderly.queued q listed) listed sent bytes m own same shows) refl)
    (transmitted_orderly (parts_of c.core) rest within sound.orderly) (until_map c.core.phase (still_can c after refl refl refl refl) sound.can_ask))

queued_transmitted : (c : Client) (now : ℕ) (q : Queued) (rest : List Queued) (sent : Sent) (new : Protocol) → IsSound c → c.core.queue ≡ q ∷ rest → IsQueuedSent c.core now q rest sent new
    → IsRunStep c [] (Some sent.bytes) [] new
queued_transmitted c now q rest sent new sound waits is =
    waits_sent c q rest sent.bytes new sound (subst (λ (l : List Queued). IsIn q l) (sym waits) (inl refl)) (λ x h. subst (λ (l : List Queued). IsIn x l) (sym waits) (inr h))
    (ap (λ (s : Sent). s.bytes) is.is_sent) (is.after ∙ sym (ap (λ (o : Option ℕ). record c.core { queue = rest; last_send = o }) (ap (λ (p : Protocol). p.last_send) is.after)))

-- The first queued reply is transmitted.
answer_transmitted : (c : Client) (found : Option Queued) (answer : Option Sent) (new : Protocol) → IsSound c → find is_answer c.core.queue ≡ found → IsAnswerSent found c.core answer new → IsRunStep c [] (bytes_of answer) [] new
answer_transmitted c None answer new sound at is = rests c answer new sound is
answer_transmitted c (Some q) answer new sound at is =
    subst (λ (o : Option Sent). IsRunStep c [] (bytes_of o) [] new) (sym is.0)
    (waits_sent c q (without_answer c.core.queue) q.bytes new sound (found_in is_answer c.core.queue q at) (λ x h. in_others is_answer x c.core.queue h) refl
    (is.1 ∙ sym (ap (λ (o : Option ℕ). record c.core { queue = without_answer c.core.queue; last_send = o }) (ap (λ (p : Protocol). p.last_send) is.1))))

-- ---- a request that is made now

-- The transaction ID of one request.
pub one_number : (n number : ℕ) (m : run.Message) → m.number ≡ number → IsIn n (number ∷ []) → HasNumber n (m ∷ [])
one_number n number m is h = elim h [
  | inl own ↦ record { one = m; listed = inl refl; is = is ∙ own }
  | inr none ↦ absurd none
]

-- What is transmitted is that request.
draws_own : (c : Client) (text sent : List ℕ) → sent ≡ text → (bytes : List ℕ) (m : run.Message) → Some sent ≡ Some bytes → stun_wire.visible bytes ≡ Some m → MayDraw client_words c (decoded_by text ∷ []) m
draws_own c text sent own bytes m same shows =
    inl (inr (inr (inl (message_read _ (decoded_by text) m (ap (λ (b : List ℕ). stun_wire.visible b) (sym own) ∙ shows_own sent bytes m same shows)))))

first_sent : (c : Client) (now : ℕ) (sent : Sent) (new : Protocol) → IsSound c → c.core.phase ≡ Initial → IsFirstSent c.core now sent new → IsRunStep c [] (Some sent.bytes) [] new
unfolding first_allocated sent_at_once
first_sent c now sent new sound at is =
    let can : CanAsk c = subst (λ (f : Phase). UntilEnded f (CanAsk c)) at sound.can_ask in
    let request : TurnRequest = FirstAllocate c.core.allocates c.core.families c.core.options in
    let under_way = at_first c [] sound.orderly can in
    let written = made c c.core request is.number under_way is.lawful tt is.made.is_next in
    let text = request_text c.core.auth request is.number in
    let own : sent.bytes ≡ text = ap (λ (s : Sent). s.bytes) is.made.is_sent in
    let allocate : IsAllocate (parts_of c.core) text = (ap (λ (m : run.Message). m.method) written.reported, ap (λ (m : run.Message). m.transport) written.reported) in
    let mid : Parts = parts_of (sent_at_once (after_number c.core) request is.number now) in
    let orderly = sent_orderly c.core request is.number now written (before_all c.core.phase allocate) sound.orderly in
    let alone : AreAllocates c.core.allocates mid.agent = subst (λ (f : Phase). BeforeAllocated f (AreAllocates c.core.allocates mid.agent)) at orderly.allocates in
    let core : Protocol = after_sending now (first_allocated is.number now c.core) in
    let adds = adds_both (decoded_by text ∷ []) (parts_of c.core) mid (parts_of core) (sent_adds c.core request is.number now)
    (phase_moved (decoded_by text ∷ []) mid (InitialSent (is.number ∷ [])) (λ n h. inr (one_number n is.number (decoded_by text) written.number_is h))) in
    subst (λ (p : Protocol). IsRunStep c [] (Some sent.bytes) [] p) (sym is.after)
    (asks c c.core request is.number under_way written (Some sent.bytes) core adds
    (phase_orderly mid (InitialSent (is.number ∷ [])) alone orderly) refl
    (λ realm h. realm_going c.core.phase c.core.auth.challenge realm (going_at c.core.phase Initial at (λ stored. refl)) h) can.settings refl refl (draws_own c text sent.bytes own))

refresh_sent : (c : Client) (now : ℕ) (sent : Sent) (new : Protocol) → IsSound c → c.core.phase ≡ Authenticated → IsRefreshSent c.core now sent new → IsRunStep c [] (Some sent.bytes) [] new
unfolding first_refreshed sent_at_once
refresh_sent c now sent new sound at is =
    let can : CanAsk c = subst (λ (f : Phase). UntilEnded f (CanAsk c)) at sound.can_ask in
    let under_way = at_first c [] sound.orderly can in
    let written = made c c.core (Refresh c.core.options.lifetime) is.number under_way is.lawful tt is.made.is_next in
    let text = request_text c.core.auth (Refresh c.core.options.lifetime) is.number in
    let own : sent.bytes ≡ text = ap (λ (s : Sent). s.bytes) is.made.is_sent in
    let refresh = refresh_of is.number c.core.options.lifetime in
    let mid : Parts = parts_of (sent_at_once (after_number c.core) (Refresh c.core.options.lifetime) is.number now) in
    let left = refreshed_first now refresh c.core.allocations in
    let less : AreLess (refresh ∷ []) c.core.allocations left = first_less (refresh ∷ []) (refreshing refresh) (one_awaited refresh) (wants now) c.core.allocations in
    let core : Protocol = after_sending now (first_refreshed is.number now c.core) in
    let adds = adds_both (decoded_by text ∷ []) (parts_of c.core) mid (parts_of core) (sent_adds c.core (Refresh c.core.options.lifetime) is.number now)
    (allocations_less (decoded_by text ∷ []) (refresh ∷ []) mid left less (refresh_made c.core is.number c.core.options.lifetime written)) in
    let orderly = allocations_orderly (refresh ∷ []) mid left less (refresh_short is.number c.core.options.lifetime is.lawful)
    (same_first_distinct (wants now) (refreshing refresh) (λ a. (refl, refl)) c.core.allocations sound.orderly.distinct)
    (sent_orderly c.core (Refresh c.core.options.lifetime) is.number now written (allocated _ c.core.phase at) sound.orderly) in
    subst (λ (p : Protocol). IsRunStep c [] (Some sent.bytes) [] p) (sym is.after)
    (asks c c.core (Refresh c.core.options.lifetime) is.number under_way written (Some sent.bytes) core adds orderly refl (λ realm h. h) can.settings refl refl (draws_own c text sent.bytes own))

-- A request that renews something.
module _ (c : Client) (request : TurnRequest) (number now : ℕ) (left : List Allocation) (sound : IsSound c) (at : c.core.phase ≡ Authenticated) (under_way : IsUnderWay c [] c.core) (is : written.IsMade c.core request number) where
  abbrev text_of : List ℕ
  text_of = request_text c.core.auth request number

  -- The client that transmitted it, with these allocations.
  abbrev renewed_with : Protocol
  renewed_with = after_sending now (record (sent_at_once (after_number c.core) request number now) { allocations = left })

  renews : ArePermitting none_gained (asks_by request number) c.core.allocations left → AreFit none_gained (asks_by request number) (with_request c.core.agent text_of c.core.server now) → AreDistinct left
      → (sent : List ℕ) → sent ≡ text_of → IsRunStep c [] (Some sent) [] renewed_with
  unfolding sent_at_once
  renews are fit distinct sent own =
      let mid : Parts = parts_of (sent_at_once (after_number c.core) request number now) in
      let adds = adds_both (decoded_by text_of ∷ []) (parts_of c.core) mid (parts_of renewed_with) (sent_adds c.core request number now)
      (allocations_permitting (decoded_by text_of ∷ []) (asks_by request number) mid left are (made_number c.core request number now is)) in
      let orderly = permitting_orderly none_gained (asks_by request number) mid left are fit
      (sent_orderly c.core request number now is (allocated _ c.core.phase at) sound.orderly) distinct in
      asks c c.core request number under_way is (Some sent) renewed_with adds orderly refl (λ realm h. h) under_way.can_ask.settings refl refl (draws_own c text_of sent own)

renewal_sent : (c : Client) (ip : IpAddr) (now : ℕ) (sent : Sent) (new : Protocol) → IsSound c → c.core.phase ≡ Authenticated → IsRenewalSent c.core ip now sent new → IsRunStep c [] (Some sent.bytes) [] new
unfolding first_permitted
renewal_sent c ip now sent new sound at is =
    let under_way = at_first c [] sound.orderly (subst (λ (f : Phase). UntilEnded f (CanAsk c)) at sound.can_ask) in
    let number = is.number in
    let made_it = made c c.core (CreatePermission (ip ∷ [])) number under_way is.lawful tt is.made.is_next in
    let are : ArePermitting none_gained (asks_by (CreatePermission (ip ∷ [])) number) c.core.allocations (renewal_first now number c.core.allocations) =
    first_permitting none_gained (asks_by (CreatePermission (ip ∷ [])) number) (wants now) (renewing now number) c.core.allocations (λ a found. renewing_permitting ip now number a) in
    subst (λ (p : Protocol). IsRunStep c [] (Some sent.bytes) [] p) (sym is.after)
    (renews c (CreatePermission (ip ∷ [])) number now (renewal_first now number c.core.allocations) sound at under_way made_it are (permission_fit c.core (ip ∷ []) number now made_it)
    (same_first_distinct (wants now) (renewing now number) (λ a. (refl, refl)) c.core.allocations sound.orderly.distinct) sent.bytes (ap (λ (s : Sent). s.bytes) is.made.is_sent))

channel_sent : (c : Client) (channel : ℕ) (peer : SocketAddr) (now : ℕ) (sent : Sent) (new : Protocol) → IsSound c → c.core.phase ≡ Authenticated → wanted now c.core.allocations ≡ Some (want.Channel channel peer)
    → IsChannelRenewalSent c.core channel peer now sent new → IsRunStep c [] (Some sent.bytes) [] new
unfolding first_bound
channel_sent c channel peer now sent new sound at wants_it is =
    let under_way = at_first c [] sound.orderly (subst (λ (f : Phase). UntilEnded f (CanAsk c)) at sound.can_ask) in
    let number = is.number in
    let whole = renewal_whole now channel peer (parts_of c.core) wants_it sound.orderly in
    let made_it = made c c.core (ChannelBind channel peer) number under_way is.lawful (peer_read number peer whole.own whole.flow whole.scope) is.made.is_next in
    let left = channel_renewal_first now number c.core.allocations in
    let are : ArePermitting none_gained (asks_by (ChannelBind channel peer) number) c.core.allocations left =
    first_permitting none_gained (asks_by (ChannelBind channel peer) number) (wants now) (channels.renewing now number) c.core.allocations
    (λ a found. binding.renewing_permitting channel peer number now a (first_is a (first_to_renew now channel peer c.core.allocations wants_it a found))) in
    let distinct : AreDistinct left = first_stay_distinct c.core.allocations (wants now) (channels.renewing now number) (λ a found. renewing_uses_less now number a) sound.orderly.distinct in
    subst (λ (p : Protocol). IsRunStep c [] (Some sent.bytes) [] p) (sym is.after)
    (renews c (ChannelBind channel peer) number now left sound at under_way made_it are (channel_fit c.core channel peer number now whole made_it) distinct sent.bytes (ap (λ (s : Sent). s.bytes) is.made.is_sent))
  where
    first_is : (a : Allocation) → IsToRenew now a channel peer → (b : Channel) → find (wants_renewal now) a.channels ≡ Some b → (b.number ≡ channel) × (b.peer ≡ peer)
    first_is a first b found =
        let same : b ≡ first.first = inside (sym found ∙ first.found) in
        (ap (λ (x : Channel). x.number) same ∙ first.number_is, ap (λ (x : Channel). x.peer) same ∙ first.peer_is)

-- ---- all of it

sends : (c : Client) (Is : Sent → Type 0) (answer : Option Sent) (new : Protocol) → ((sent : Sent) → Is sent → IsRunStep c [] (Some sent.bytes) [] new) → Sends answer Is → IsRunStep c [] (bytes_of answer) [] new
sends c Is None new f h = absurd h
sends c Is (Some sent) new f h = f sent h

renewed_by : (c : Client) (what : Option Want) (now : ℕ) (answer : Option Sent) (new : Protocol) → IsSound c → c.core.phase ≡ Authenticated → wanted now c.core.allocations ≡ what → IsRenewed what c.core now answer new → IsRunStep c [] (bytes_of answer) [] new
renewed_by c None now answer new sound at is h = rests c answer new sound h
renewed_by c (Some want.Refresh) now answer new sound at is h = sends c (λ s. IsRefreshSent c.core now s new) answer new (λ s one. refresh_sent c now s new sound at one) h
renewed_by c (Some (want.Channel channel peer)) now answer new sound at is h = sends c (λ s. IsChannelRenewalSent c.core channel peer now s new) answer new (λ s one. channel_sent c channel peer now s new sound at is one) h
renewed_by c (Some (want.Permission ip)) now answer new sound at is h = sends c (λ s. IsRenewalSent c.core ip now s new) answer new (λ s one. renewal_sent c ip now s new sound at one) h

started : (c : Client) (phase : Phase) (now : ℕ) (answer : Option Sent) (new : Protocol) → IsSound c → c.core.phase ≡ phase → IsStarted phase c.core now answer new → IsRunStep c [] (bytes_of answer) [] new
started c Initial now answer new sound at h = sends c (λ s. IsFirstSent c.core now s new) answer new (λ s is. first_sent c now s new sound at is) h
started c (InitialSent numbers) now answer new sound at h = rests c answer new sound h
started c (Authenticating numbers) now answer new sound at h = rests c answer new sound h
started c Ended now answer new sound at h = rests c answer new sound h
started c Authenticated now answer new sound at h = renewed_by c (wanted now c.core.allocations) now answer new sound at refl h

next_sent : (c : Client) (queue : List Queued) (now : ℕ) (answer : Option Sent) (new : Protocol) → IsSound c → c.core.queue ≡ queue → IsNextSent queue c.core now answer new → IsRunStep c [] (bytes_of answer) [] new
next_sent c (q ∷ rest) now answer new sound waits h = sends c (λ s. IsQueuedSent c.core now q rest s new) answer new (λ s is. queued_transmitted c now q rest s new sound waits is) h
next_sent c [] now answer new sound waits h = started c c.core.phase now answer new sound refl h

pub draw_step : (c : Client) (now : ℕ) (answer : Option Sent) (new : Protocol) → IsSound c → IsTransmitted c.core now answer new → IsRunStep c [] (bytes_of answer) [] new
draw_step c now answer new sound (Again sent is repeated) = subst (λ (o : Option Sent). IsRunStep c [] (bytes_of o) [] new) (sym is) (repeats c now sent new sound repeated)
draw_step c now answer new sound (Fresh none h) =
    by_test (is_resting (pace_of c.core) c.core.last_send now)
    (λ (_ : is_resting (pace_of c.core) c.core.last_send now ≡ true) is. answer_transmitted c (find is_answer c.core.queue) answer new sound refl is)
    (λ (_ : is_resting (pace_of c.core) c.core.last_send now ≡ false) is. next_sent c c.core.queue now answer new sound refl is) h
