use Rattle.std.proofs.Common.{◌≡◌, ◌≢◌, ◌++◌, ◌<◌, ℕ, Bool, true, List, [], ◌∷◌, Option, Some, None, ap, refl, sym, ◌∙◌, subst, ◌⊎◌, inl, inr}
use Rattle.std.specs.FinMap as map
use Rattle.std.specs.Ordering.{nat_cmp}
use Rattle.std.specs.declared.net.socket_addr.SocketAddr.{SocketAddr}
use Rattle.turn_desk_core.specs.StunTypesBase.declared.transport.TransportType.{TransportType}
use Rattle.turn_desk_core.specs.StunTypesWire.Grammar.{number_at}
use Rattle.turn_desk_event.specs.StunProtoTransaction.Schedule.{end_at}
use Rattle.turn_client_proto_api.specs.StunProtoAgent.Handling.{is_response}
use Rattle.turn_client_proto_api.specs.StunProtoAgent.State as agents
use Rattle.turn_client_proto_api.specs.Sent.{Sent, sent_of}
use Rattle.turn_client_proto_api.specs.declared.event.TurnEvent.{TurnEvent}
use Rattle.turn_client_proto_messages.specs.Judging.{signer_of}
use Rattle.turn_client_proto_messages.specs.StunProtoClient.Client as auth
use Rattle.turn_client_proto_messages.specs.StunProtoClient.ClientValidation.{keeping}
use Rattle.turn_client_proto_messages.specs.declared.request.TurnRequest.TheVariants.{FirstAllocate}
use Rattle.turn_client_proto_handshake_laws.specs.Choosing.{Choice, IsChallenge, signed_sent, signer_by}
use Rattle.turn_client_proto_handshake_laws.specs.Coming.{IsPartOf, IsUnserved}
use Rattle.turn_client_proto_handshake_laws.specs.Core.Receiving.{IsProcessed}
use Rattle.turn_client_proto_handshake_laws.specs.Sent.{Beginning, first_number, first_request}
use Rattle.turn_client_proto_handshake_laws.specs.Stages.{IsAsking, signed_queued}
use Rattle.turn_client_proto_handshake_laws.proofs.Challenged.{HasAnswered, IsOver as HasBarred, challenge_processed, is_over}
use Rattle.turn_client_proto_handshake_laws.proofs.Only.{none_found}
use Rattle.turn_client_proto_step_laws.specs.Payload.Payloads.{bound, permitted}
use Rattle.turn_client_proto_step_laws.specs.Recv.ClientState.{ClientState, Protocol}
use Rattle.turn_client_proto_step_laws.specs.Timers.Drawing.{IsTransmitted}
use Rattle.turn_desk_event.specs.declared.answer.Answer.{Answer}
use Rattle.turn_desk_event.specs.declared.answer.Answer.TheVariants as answer
use Rattle.turn_desk_event.specs.declared.event.ClientCall.{ClientCall}
use Rattle.turn_desk_event.specs.declared.event.ClientCall.TheVariants.{Poll, PollRecv}
use Rattle.turn_desk_event.specs.declared.event.Event.{Event}
use Rattle.turn_desk_event.specs.declared.event.Event.TheVariants.{Call, Draw, ToClient}
use Rattle.turn_desk_world_laws.specs.World.Calls.{IsCallReported, IsTransmittedAs}
use Rattle.turn_desk_world_laws.specs.World.Model.{World}
use Rattle.turn_desk_world_laws.specs.World.Runs.{IsAtClient, IsRun, IsStep}
use Rattle.turn_desk_progress_laws.specs.Forged.{AreWithForged, IsForged, IsNumbered, after_first, second_number}
use Rattle.turn_desk_progress_laws.specs.Promises.{HasClient, HasCome, IsFresh, control_at, event_in, events_in, over}
use Rattle.turn_desk_progress_laws.specs.Scripts.{AskFirst, AskSecond, Barred, Came, Challenged, Done, DrawFirst, DrawSecond, DrawsOn, Follows, GiveFirst, GiveSecond, Granted, IsLook, IsPolledAt, IsScript, Looks, Plan, Polls, Progress, Receives, Requested, Signed, Silent, Start, brought_first, brought_second, replied_first, replied_second, transmitted_first, transmitted_second}
use Rattle.turn_desk_progress_laws.specs.Standing.{Chooses, HasTransmitted, IsAtStage, IsAtStart, IsChallenged, IsHeld, IsOver, IsReplied}
use Rattle.turn_desk_progress_laws.proofs.Clients.{IsLooked, Rests, Still, Took, draws, looks, poll_rests}
use Rattle.turn_desk_progress_laws.proofs.Coming.{DoReach, DoWait, IsBroughtOn, IsProcessedOn, brings, none_yet, waiting_rests}
use Rattle.turn_desk_progress_laws.proofs.Ignoring.{Ignores, forged_rests, unawaited}
use Rattle.turn_desk_progress_laws.proofs.Indexes.{first_fits, first_in_range, same_sent}
use Rattle.turn_desk_progress_laws.proofs.SecondNumbers.{IsSecondAlone, Own, Owns, answered_phase, first_draws, number_is, own_moved, owns_rests, owns_so, same_core, same_number}
use Rattle.turn_desk_progress_laws.proofs.Serving.{unserved_of}
use Rattle.turn_desk_progress_laws.proofs.hardened.hardened_runs_allocate.Goals as goal

-- ---- events that don't concern the transaction IDs

module _ (plan : Plan) (progress : Progress) (w v : World) (own : Owns plan progress w) where
  looked_own : (p q : Protocol) (ret : Answer) → IsLooked p ret q → Own plan progress p → Own plan progress q
  looked_own p q ret (Took event taken said) is = own_moved plan progress p q (ap (λ (x : Protocol). x.rng) taken.others) (ap (λ (x : Protocol). x.agent) taken.others) is
  looked_own p q ret (Still same silent) is = subst (λ (x : Protocol). Own plan progress x) (sym same) is

  looks_own : (what : ClientCall) (now : ℕ) (ret : Answer) → IsLook what → IsStep (Call what now) w ret v → Owns plan progress v
  unfolding IsAtClient
  looks_own what now ret look step = by w.client refl
    where
      by : (o : Option ClientState) → w.client ≡ o → Owns plan progress v
      by None none = λ k there.
          let at = subst (λ (o : Option ClientState). IsAtClient now (λ p q. IsCallReported what ret p now q) o ret v.client) none step.0 in
          absurd (Prim.cc (sym there ∙ at.1))
      by (Some k) some =
          let l = looks k.control w v k.core what now ret some look step in
          owns_so plan progress v (over k.control l.core) l.there (looked_own k.core l.core ret l.looked (own k some))

module _ (c : goal.After-honest_runs_allocate) (plan : Plan) (old : World) (fresh : IsFresh plan old) where
  abbrev b : Beginning
  b = plan.client

  abbrev reach : DoReach
  reach = record { datagram = c.messages_reach_clients.ensures.datagram; chunk = c.messages_reach_clients.ensures.chunk; whole = c.messages_reach_clients.ensures.whole }

  abbrev wait : DoWait
  wait = record { waiting = c.messages_reach_clients.ensures.waiting; none_waits = c.messages_reach_clients.ensures.none_waits }

  asking_unserved : (p : Protocol) → IsAsking b 1 b.made p → IsUnserved b p
  asking_unserved p is = c.stages_are_unserved.ensures.asking b 1 b.made p is

  chosen_unserved : (choice : Choice) (p : Protocol) → Chooses plan choice p → IsUnserved b p
  chosen_unserved choice p is = c.stages_are_unserved.ensures.signing b choice 1 b.made (signed_queued b choice ∷ []) p is

  signed_unserved : (choice : Choice) (p : Protocol) → HasTransmitted plan choice p → IsUnserved b p
  signed_unserved choice p is = unserved_of plan choice p is c.stages_are_unserved.ensures.signing

  -- ---- calls that change nothing

  module _ (w v : World) (ret : Answer) (now : ℕ) where
    module _ (before : now < end_at b.made b.config.waits) (step : IsStep (Call Poll now) w ret v) where
      asking_polls : (head : List ℕ) → HasClient plan head w (λ p. IsAsking b 1 b.made p) → Rests ret w v
      asking_polls head h = poll_rests (control_at b.transport head) w v h.core now ret h.there (λ r q polled. (c.asking_clients_wait.ensures.polled b 1 b.made h.core q now r h.is before polled).unchanged) step

      before_end : (choice : Choice) → choice.made ≡ b.made → now < end_at choice.made b.config.waits
      before_end choice made = subst (λ (m : ℕ). now < end_at m b.config.waits) (sym made) before

      chosen_polls : (choice : Choice) → choice.made ≡ b.made → HasClient plan [] w (Chooses plan choice) → Rests ret w v
      chosen_polls choice made h =
          poll_rests (control_at b.transport []) w v h.core now ret h.there (λ r q polled. (c.chosen_clients_sign.ensures.polled b choice 1 b.made h.core q now r h.is (before_end choice made) polled).unchanged) step

      signed_polls : (choice : Choice) → choice.made ≡ b.made → (head : List ℕ) → HasClient plan head w (HasTransmitted plan choice) → Rests ret w v
      signed_polls choice made head h = elim h.is.is [
        | inl is ↦
            poll_rests (control_at b.transport head) w v h.core now ret h.there (λ r q polled. (c.chosen_clients_sign.ensures.polled b choice h.is.used plan.second h.core q now r is (before_end choice made) polled).unchanged) step
        | inr is ↦
            poll_rests (control_at b.transport head) w v h.core now ret h.there (λ r q polled. (c.signed_clients_wait.ensures.polled b choice h.is.used plan.second h.core q now r is (before_end choice made) polled).unchanged) step
      ]

      over_polls : (reported : List TurnEvent) → IsOver plan old reported w → Rests ret w v
      over_polls reported is = poll_rests (control_at b.transport []) w v is.client.core now ret is.client.there (λ r q polled. (c.ended_clients_rest.ensures.polled b is.left is.client.core q now r is.client.is polled).1) step

      polls_own : (reported : List TurnEvent) (progress : Progress) → IsPolledAt progress → IsAtStage plan old reported progress w → Owns plan progress w → Owns plan progress v
      polls_own reported Start at is own = λ k there. tt
      polls_own reported (Requested request) at is own = owns_rests plan (Requested request) w v ret (asking_polls [] is.1.client) own
      polls_own reported (Challenged request reply head) at is own = owns_rests plan (Challenged request reply head) w v ret (asking_polls head is.1.client) own
      polls_own reported Came at (inl is) own = owns_rests plan Came w v ret (chosen_polls is.1.choice is.1.chosen.made is.1.chosen.client) own
      polls_own reported Came at (inr is) own = owns_rests plan Came w v ret (over_polls reported is) own
      polls_own reported (Signed request) at is own = owns_rests plan (Signed request) w v ret (signed_polls is.1.choice is.1.chosen.made [] is.1.chosen.client) own
      polls_own reported (Granted request address lifetime reply head) at is own =
          owns_rests plan (Granted request address lifetime reply head) w v ret (signed_polls is.1.choice is.1.is.made head is.1.client) own
      polls_own reported (Done request address lifetime reply) at is own = absurd at
      polls_own reported Barred at is own = λ k there. tt
      polls_own reported Silent at is own = λ k there. tt

    module _ (step : IsStep (Call PollRecv now) w ret v) where
      -- Nothing of a message has come: here of the first request.
      started : IsPartOf [] (first_request b)
      started = none_yet (first_request b)
          (c.proof_requests_are_read.ensures.message (signer_of b.config) (FirstAllocate b.config.transport b.config.families b.config.options) (first_number b) (c.new_clients_ask.ensures.short b fresh.room) fresh.room.1 (first_fits b))

      receives : (head message : List ℕ) (Is : Protocol → Type 0) (h : HasClient plan head w Is) → IsPartOf head message → IsUnserved b h.core → Rests ret w v
      receives head message Is h part u = waiting_rests wait b w v h.core head message now ret h.there (c.stages_are_unserved.ensures.none_waits b h.core u) part step

      receives_own : (reported : List TurnEvent) (progress : Progress) → IsAtStage plan old reported progress w → Owns plan progress w → Owns plan progress v
      receives_own reported Start is own = λ k there. tt
      receives_own reported (Requested request) is own =
          owns_rests plan (Requested request) w v ret (receives [] (first_request b) _ is.1.client started (asking_unserved is.1.client.core is.1.client.is)) own
      receives_own reported (Challenged request reply head) is own =
          owns_rests plan (Challenged request reply head) w v ret (receives head reply _ is.1.client is.1.part (asking_unserved is.1.client.core is.1.client.is)) own
      receives_own reported Came (inl is) own =
          owns_rests plan Came w v ret (receives [] (first_request b) _ is.1.chosen.client started (chosen_unserved is.1.choice is.1.chosen.client.core is.1.chosen.client.is)) own
      receives_own reported Came (inr is) own =
          owns_rests plan Came w v ret (receives [] (first_request b) _ is.client started (c.stages_are_unserved.ensures.ended b is.left is.client.core is.client.is)) own
      receives_own reported (Signed request) is own =
          owns_rests plan (Signed request) w v ret (receives [] (first_request b) _ is.1.chosen.client started (signed_unserved is.1.choice is.1.chosen.client.core is.1.chosen.client.is)) own
      receives_own reported (Granted request address lifetime reply head) is own =
          owns_rests plan (Granted request address lifetime reply head) w v ret (receives head reply _ is.1.client is.1.part (signed_unserved is.1.choice is.1.client.core is.1.client.is)) own
      receives_own reported (Done request address lifetime reply) is own = λ k there. own (over (control_at b.transport []) is.client.core) is.client.there
      receives_own reported Barred is own = λ k there. tt
      receives_own reported Silent is own = λ k there. tt

  -- ---- the exchanges

  -- A client that awaits nothing has no other request.
  none_alone : (p : Protocol) → ((n : ℕ) → map.get p.agent.outstanding n ≡ None) → IsSecondAlone b p
  none_alone p none = λ n t there. absurd (Prim.cc (sym (none n) ∙ there))

  module _ (w v : World) where
    first_own : (p : Protocol) (ret : Answer) (core : Protocol) → v.client ≡ Some (over (control_at b.transport []) core)
        → ((sent : Option Sent) → IsTransmitted p b.made sent core → core.rng ≡ after_first b) → IsTransmittedAs ret p b.made core → Owns plan (transmitted_first ret) v
    unfolding IsTransmittedAs
    first_own p (answer.Transmit sent) core there each is = owns_so plan (Requested (sent_of sent)) v (over (control_at b.transport []) core) there (each (Some (sent_of sent)) is)
    first_own p answer.Nothing core there each is = λ k at. tt
    first_own p _ core there each is = absurd is

    second_own : (p : Protocol) (ret : Answer) (core : Protocol) → v.client ≡ Some (over (control_at b.transport []) core)
        → ((sent : Option Sent) → IsTransmitted p plan.second sent core → ((one : Sent) → sent ≡ Some one → number_at one.bytes ≡ second_number b) × IsSecondAlone b core) → IsTransmittedAs ret p plan.second core → Owns plan (transmitted_second ret) v
    unfolding IsTransmittedAs
    second_own p (answer.Transmit sent) core there each is =
        let both = each (Some (sent_of sent)) is in
        owns_so plan (Signed (sent_of sent)) v (over (control_at b.transport []) core) there (both.0 (sent_of sent) refl, both.1)
    second_own p answer.Nothing core there each is = λ k at. tt
    second_own p _ core there each is = absurd is

    first_drawn : (reported : List TurnEvent) (ret : Answer) → IsAtStage plan old reported Start w → IsStep (Draw b.made) w ret v → Owns plan (transmitted_first ret) v
    first_drawn reported ret is step =
        let d = draws (control_at b.transport []) w v is.1.client.core b.made ret is.1.client.there (first_in_range plan fresh.timely) step in
        first_own is.1.client.core ret d.core d.there
        (λ sent transmitted. first_draws b is.1.client.core is.1.client.is sent d.core transmitted) d.transmitted

    second_drawn : (reported : List TurnEvent) (ret : Answer) → IsAtStage plan old reported Came w → Owns plan Came w → IsStep (Draw plan.second) w ret v → Owns plan (transmitted_second ret) v
    second_drawn reported ret (inl is) own step =
        let h = is.1.chosen.client in
        let d = draws (control_at b.transport []) w v h.core plan.second ret h.there fresh.timely.in_range step in
        second_own h.core ret d.core d.there (λ sent transmitted. (
        let l = c.chosen_clients_sign.ensures.late b is.1.choice 1 b.made h.core d.core plan.second sent h.is fresh.timely.apart transmitted in
        let second = own (over (control_at b.transport []) h.core) h.there is.1.choice.number _ h.is.requested.there in
        let number = (c.signed_allocates_answer.ensures.request b is.1.choice fresh.room fresh.text h.is.choice).number in
        (λ one same. ap (λ (s : Sent). number_at s.bytes) (same_sent one (signed_sent b is.1.choice) (sym same ∙ l.0)) ∙ number ∙ second, λ n t there. l.3.requested.only n t there ∙ second))) d.transmitted
    second_drawn reported ret (inr is) own step =
        let d = draws (control_at b.transport []) w v is.client.core plan.second ret is.client.there fresh.timely.in_range step in
        second_own is.client.core ret d.core d.there (λ sent transmitted. (
        let rests = c.ended_clients_rest.ensures.transmitted b is.left is.client.core d.core plan.second sent is.client.is transmitted in
        (λ one same. absurd (Prim.cc (sym rests.0 ∙ same)), none_alone d.core (λ n. ap (λ (x : Protocol). map.get x.agent.outstanding n) rests.1 ∙ is.client.is.none_requested n)))) d.transmitted

    -- The server core replies, or it doesn't.
    first_replied : (request : Sent) (ret : Answer) → v.client ≡ w.client → Owns plan (Requested request) w → Owns plan (replied_first request ret) v
    first_replied request (answer.Reply reply) same own = λ k there. own k (sym same ∙ there)
    first_replied request _ same own = λ k there. tt

    second_replied : (request : Sent) (address : SocketAddr) (lifetime : ℕ) (ret : Answer) → v.client ≡ w.client → Owns plan (Signed request) w → Owns plan (replied_second request address lifetime ret) v
    second_replied request address lifetime (answer.Reply reply) same own = λ k there. own k (sym same ∙ there)
    second_replied request address lifetime _ same own = λ k there. tt

    -- The challenge has come.
    module _ (reported : List TurnEvent) (request : Sent) (reply head : List ℕ) (is : IsChallenged plan old request reply head w) (own : Owns plan (Challenged request reply head) w) (ret : Answer) where
      is_challenge : IsChallenge b is.challenge.reported reply
      is_challenge = record { visible = is.challenge.visible; number = is.challenge.number ∙ c.new_clients_ask.ensures.number b fresh.room }

      came : (h : IsProcessedOn (control_at b.transport []) is.client.core reply b.made ret w v) (after : List TurnEvent) → IsAtStage plan old after Came v → Owns plan Came v
      came h after (inr ended) = owns_so plan Came v (over (control_at b.transport []) ended.client.core) ended.client.there (none_alone ended.client.core ended.client.is.none_requested)
      came h after (inl chosen) = by (challenge_processed b 1 b.made is.client.core is.client.is is.challenge.reported reply is_challenge b.made h.handled h.core h.processed)
        where
          by : HasAnswered b 1 b.made is.client.core is.client.is is.challenge.reported reply is_challenge b.made h.handled h.core ⊎ HasBarred b 1 b.made is.client.core is.client.is is.challenge.reported reply is_challenge b.made h.handled h.core → Owns plan Came v
          by (inr barred) = owns_so plan Came v (over (control_at b.transport []) h.core) h.there
              (none_alone h.core (is_over b 1 b.made is.client.core is.client.is is.challenge.reported reply is_challenge b.made h.handled h.core barred).none_requested)
          by (inl a) =
              let k = chosen.1.chosen.client in
              let phase = answered_phase b is.client.core is.client.is.phase reply a.number b.made (keeping is.client.core.auth is.challenge.reported a.algorithm) h.core a.after in
              let same = same_number b chosen.1.choice.number a.number h.core.phase (ap (λ (x : Protocol). x.phase) (same_core (control_at b.transport []) h.core k.core v.client h.there k.there) ∙ k.is.phase) phase in
              let second = number_is b 1 b.made is.client.core is.client.is (own (over (control_at b.transport head) is.client.core) is.client.there) (keeping is.client.core.auth is.challenge.reported a.algorithm) a.number a.is_next in
              owns_so plan Came v (over (control_at b.transport []) k.core) k.there (λ n t there. k.is.requested.only n t there ∙ same ∙ second)

      first_brought : (next rest : List ℕ) (after : List TurnEvent) → IsBroughtOn b.transport is.client.core reply next rest b.made ret w v → IsAtStage plan old after (brought_first request reply next rest) v → Owns plan (brought_first request reply next rest) v
      first_brought next [] after h stage = came h after stage
      first_brought next (byte ∷ rest) after h stage = owns_so plan (Challenged request reply next) v (over (control_at b.transport next) is.client.core) h.0.there (own (over (control_at b.transport head) is.client.core) is.client.there)

    second_brought : (request : Sent) (address : SocketAddr) (lifetime : ℕ) (reply head : List ℕ) (is : IsReplied plan old request address lifetime reply head w) → Owns plan (Granted request address lifetime reply head) w → (ret : Answer) (next rest : List ℕ)
        → IsBroughtOn b.transport is.client.core reply next rest plan.second ret w v → Owns plan (brought_second request address lifetime reply next rest) v
    second_brought request address lifetime reply head is own ret next [] h = λ k there. (own (over (control_at b.transport head) is.client.core) is.client.there).0
    second_brought request address lifetime reply head is own ret next (byte ∷ rest) h =
        owns_so plan (Granted request address lifetime reply next) v (over (control_at b.transport next) is.client.core) h.0.there (own (over (control_at b.transport head) is.client.core) is.client.there)

  -- ---- an event of the honest network

  module _ (w v : World) (reported after : List TurnEvent) (progress next : Progress) (event : Event) (ret : Answer) where
    -- With the position, the event and the next position as a constructor has them.
    abbrev At : Progress → Event → Progress → Type 0
    At from happening to = IsAtStage plan old reported from w → Owns plan from w → IsStep happening w ret v → IsAtStage plan old after to v → Owns plan to v

    as_said : (from : Progress) (happening : Event) (to : Progress) → progress ≡ from → event ≡ happening → next ≡ to → At from happening to → At progress event next
    as_said from happening to one two three is = λ stage own step leads.
        subst (λ (n : Progress). Owns plan n v) (sym three)
        (is (subst (λ (p : Progress). IsAtStage plan old reported p w) one stage) (subst (λ (p : Progress). Owns plan p w) one own) (subst (λ (e : Event). IsStep e w ret v) two step)
        (subst (λ (n : Progress). IsAtStage plan old after n v) three leads))

    keeps : Follows plan progress event ret next → At progress event next
    keeps (DrawFirst at is to) = as_said _ _ _ at is to (λ stage own step leads. first_drawn w v reported ret stage step)
    keeps (AskFirst request bytes decision seed at same is to) = as_said _ _ _ at is to (λ stage own step leads. first_replied w v request ret (ap (λ (x : World). x.client) step.1) own)
    keeps (GiveFirst request reply head rest bytes at on is to) = as_said _ _ _ at is to (λ stage own step leads. (
        let said = subst (λ (r : Sent). IsStep (ToClient bytes r.to r.from b.made) w ret v) stage.1.request_is step in
        let h = brings reach b w v stage.1.client.core reply head rest bytes b.made ret stage.1.client.there (asking_unserved stage.1.client.core stage.1.client.is) stage.1.part.is_message on (first_in_range plan fresh.timely) said in
        first_brought w v reported request reply head stage.1 own ret (head ++ bytes.items) rest after h leads))
    keeps (DrawSecond at is to) = as_said _ _ _ at is to (λ stage own step leads. second_drawn w v reported ret stage own step)
    keeps (AskSecond request bytes address lifetime seed at same asks whole is to) =
        as_said _ _ _ at is to (λ stage own step leads. second_replied w v request address lifetime ret (ap (λ (x : World). x.client) step.1) own)
    keeps (GiveSecond request address lifetime reply head rest bytes at on is to) = as_said _ _ _ at is to (λ stage own step leads. (
        let said = subst (λ (r : Sent). IsStep (ToClient bytes r.to r.from plan.second) w ret v) stage.1.is.request_is step in
        let h = brings reach b w v stage.1.client.core reply head rest bytes plan.second ret stage.1.client.there (signed_unserved stage.1.choice stage.1.client.core stage.1.client.is) stage.1.is.message on fresh.timely.in_range said in
        second_brought w v request address lifetime reply head stage.1 own ret (head ++ bytes.items) rest h))
    keeps (Looks what now look is to) = as_said _ _ _ refl is to (λ stage own step leads. looks_own plan progress w v own what now ret look step)
    keeps (Polls now at before is to) = as_said _ _ _ refl is to (λ stage own step leads. polls_own w v ret now before step reported progress at stage own)
    keeps (Receives now is to) = as_said _ _ _ refl is to (λ stage own step leads. receives_own w v ret now step reported progress stage own)
    keeps (DrawsOn now at is to) = as_said _ _ _ at is to (λ stage own step leads. λ k there. tt)

  -- ---- a forged datagram

  module _ (hard : b.config.hardened ≡ true) (w v : World) (reported : List TurnEvent) (event : Event) (ret : Answer) (f : IsForged plan event) (step : IsStep event w ret v) where
    abbrev bytes : List ℕ
    bytes = f.bytes.items

    fed : (head : List ℕ) (p : Protocol) → w.client ≡ Some (over (control_at b.transport head) p) → Ignores b bytes p → Rests ret w v
    fed head p there i =
        forged_rests b w v p f.bytes f.from f.to f.now ret i f.made (subst (λ (t : TransportType). w.client ≡ Some (over (control_at t head) p)) f.over_udp there) (subst (λ (e : Event). IsStep e w ret v) f.event_is step)

    -- A client to which nothing is allocated.
    unserved_ignores : (p : Protocol) → IsUnserved b p → (is_response bytes ≡ true → number_at bytes ≢ first_number b → number_at bytes ≢ second_number b → (now : ℕ) (handled : Bool) (q : Protocol) → IsProcessed p bytes now handled q → q ≡ p) → Ignores b bytes p
    unserved_ignores p u responses = record {
      server = u.settings.server;
      deaf = inl u.phase;
      unbound = λ id. ap (bound id) u.allocations;
      closed = λ ip. ap (permitted ip) u.allocations;
      responses = responses;
    }

    new_rests : IsAtStart plan old w → Rests ret w v
    new_rests is = fed [] is.client.core is.client.there (unserved_ignores is.client.core (c.stages_are_unserved.ensures.fresh b is.client.core is.client.is) (λ response not_first not_second now handled q processed.
        unawaited is.client.core bytes now handled q (ap (λ (x : auth.Client). x.hardened) is.client.is.auth ∙ hard) response
        (ap (λ (a : agents.Agent). map.get a.outstanding (number_at bytes)) is.client.is.agent ∙ map.get-empty nat_cmp (number_at bytes)) processed))

    asking_rests : (head : List ℕ) → HasClient plan head w (λ p. IsAsking b 1 b.made p) → Rests ret w v
    asking_rests head h = fed head h.core h.there (unserved_ignores h.core (asking_unserved h.core h.is) (λ response not_first not_second now handled q processed.
        unawaited h.core bytes now handled q (ap (λ (x : auth.Client). x.hardened) h.is.auth ∙ hard) response
        (none_found h.core.agent.outstanding (number_at bytes) (λ t there. not_first (h.is.requested.only (number_at bytes) t there))) processed))

    signing_rests : (head : List ℕ) (choice : Choice) (p : Protocol) → w.client ≡ Some (over (control_at b.transport head) p) → IsUnserved b p → p.auth ≡ signer_by b choice → IsSecondAlone b p → Rests ret w v
    signing_rests head choice p there u signs own = fed head p there (unserved_ignores p u (λ response not_first not_second now handled q processed.
        unawaited p bytes now handled q (ap (λ (x : auth.Client). x.hardened) signs ∙ hard) response
        (none_found p.agent.outstanding (number_at bytes) (λ t at. not_second (own (number_at bytes) t at))) processed))

    signer_is : (choice : Choice) (p : Protocol) → HasTransmitted plan choice p → p.auth ≡ signer_by b choice
    signer_is choice p is = elim is.is [
      | inl waits ↦ waits.auth
      | inr sent ↦ sent.auth
    ]

    over_rests : IsOver plan old reported w → Rests ret w v
    over_rests is = fed [] is.client.core is.client.there (unserved_ignores is.client.core (c.stages_are_unserved.ensures.ended b is.left is.client.core is.client.is) (λ response not_first not_second now handled q processed.
        (c.ended_clients_rest.ensures.processed b is.left is.client.core q bytes now handled is.client.is processed).1))

    held_rests : (request : Sent) (address : SocketAddr) (lifetime : ℕ) (reply : List ℕ) → IsHeld plan old reported request address lifetime reply w → Rests ret w v
    held_rests request address lifetime reply is = fed [] is.client.core is.client.there (record {
      server = is.client.is.settings.server;
      deaf = inr (is.client.is.settings.indications ∙ is.client.is.settings.usual.indications);
      unbound = λ id. ap (bound id) is.client.is.allocations;
      closed = λ ip. ap (permitted ip) is.client.is.allocations;
      responses = λ response not_first not_second now handled q processed.
          unawaited is.client.core bytes now handled q (ap (λ (x : auth.Client). x.hardened) is.client.is.auth ∙ hard) response (is.client.is.none_requested (number_at bytes)) processed;
    })

    forged_at : (progress : Progress) → IsAtStage plan old reported progress w → Owns plan progress w → Rests ret w v
    forged_at Start is own = new_rests is.1
    forged_at (Requested request) is own = asking_rests [] is.1.client
    forged_at (Challenged request reply head) is own = asking_rests head is.1.client
    forged_at Came (inl is) own =
        let h = is.1.chosen.client in
        signing_rests [] is.1.choice h.core h.there (chosen_unserved is.1.choice h.core h.is) h.is.auth (own (over (control_at b.transport []) h.core) h.there)
    forged_at Came (inr is) own = over_rests is
    forged_at (Signed request) is own =
        let h = is.1.chosen.client in
        signing_rests [] is.1.choice h.core h.there (signed_unserved is.1.choice h.core h.is) (signer_is is.1.choice h.core h.is) (own (over (control_at b.transport []) h.core) h.there).1
    forged_at (Granted request address lifetime reply head) is own =
        let h = is.1.client in
        signing_rests head is.1.choice h.core h.there (signed_unserved is.1.choice h.core h.is) (signer_is is.1.choice h.core h.is) (own (over (control_at b.transport head) h.core) h.there).1
    forged_at (Done request address lifetime reply) is own = held_rests request address lifetime reply is
    forged_at Barred is own = over_rests is
    forged_at Silent is own = absurd is

  -- ---- all of them

  -- The request of a position.
  numbered : (new : World) (reported : List TurnEvent) (progress : Progress) → IsAtStage plan old reported progress new → Owns plan progress new → IsNumbered plan progress
  numbered new reported Start is own = tt
  numbered new reported (Requested request) is own = ap (λ (r : Sent). number_at r.bytes) is.1.request_is ∙ c.new_clients_ask.ensures.number b fresh.room
  numbered new reported (Challenged request reply head) is own = ap (λ (r : Sent). number_at r.bytes) is.1.request_is ∙ c.new_clients_ask.ensures.number b fresh.room
  numbered new reported Came is own = tt
  numbered new reported (Signed request) is own = (own (over (control_at b.transport []) is.1.chosen.client.core) is.1.chosen.client.there).0
  numbered new reported (Granted request address lifetime reply head) is own = (own (over (control_at b.transport head) is.1.client.core) is.1.client.there).0
  numbered new reported (Done request address lifetime reply) is own = own (over (control_at b.transport []) is.client.core) is.client.there
  numbered new reported Barred is own = tt
  numbered new reported Silent is own = tt

  -- What is so of a run with forged datagrams.
  record IsClean (w new : World) (last : Progress) (honest pairs : List (Event × Answer)) : Type 0 where
    run : IsRun w honest new
    same : events_in honest ≡ events_in pairs
    reported : List TurnEvent
    stage : IsAtStage plan old reported last new
    own : Owns plan last new

  module _ (hard : b.config.hardened ≡ true) where
    all : (w new : World) (reported : List TurnEvent) (progress last : Progress) (honest pairs : List (Event × Answer)) → IsAtStage plan old reported progress w → Owns plan progress w → IsRun w pairs new → AreWithForged plan honest pairs
        → IsScript plan progress honest last → IsClean w new last honest pairs
    unfolding IsRun IsScript AreWithForged
    all w new reported progress last honest [] occurs own run none is =
        let there : last ≡ progress = subst (λ (l : List (Event × Answer)). IsScript plan progress l last) none is in
        record {
          run = subst (λ (l : List (Event × Answer)). IsRun w l new) (sym none) run;
          same = ap events_in none;
          reported = reported;
          stage = subst (λ (p : Progress). IsAtStage plan old reported p new) (sym there) (subst (λ (x : World). IsAtStage plan old reported progress x) (sym run) occurs);
          own = subst (λ (p : Progress). Owns plan p new) (sym there) (subst (λ (x : World). Owns plan progress x) (sym run) own);
        }
    all w new reported progress last honest (pair ∷ pairs) occurs own run (inl forged) is =
        let r = forged_at hard w run.0 reported pair.0 pair.1 forged.0 run.1 progress occurs own in
        let others = all w new reported progress last honest pairs occurs own (subst (λ (x : World). IsRun x pairs new) r.same run.2) forged.1 is in
        record {
          run = others.run;
          same = others.same ∙ ap (λ (l : List TurnEvent). l ++ events_in pairs) (sym r.silent);
          reported = others.reported;
          stage = others.stage;
          own = others.own;
        }
    all w new reported progress last honest (pair ∷ pairs) occurs own run (inr put) is =
        let script : IsScript plan progress (pair ∷ put.0) last = subst (λ (l : List (Event × Answer)). IsScript plan progress l last) put.1 is in
        let following = c.events_lead_on.ensures plan old w run.0 reported progress script.0 pair.0 pair.1 fresh script.1 occurs run.1 in
        let kept = keeps w run.0 reported (reported ++ event_in pair.1) progress script.0 pair.0 pair.1 script.1 occurs own run.1 following in
        let others = all run.0 new (reported ++ event_in pair.1) script.0 last put.0 pairs following kept run.2 put.2 script.2 in
        record {
          run = subst (λ (l : List (Event × Answer)). IsRun w l new) (sym put.1) (run.0, run.1, others.run);
          same = ap events_in put.1 ∙ ap (λ (l : List TurnEvent). event_in pair.1 ++ l) others.same;
          reported = others.reported;
          stage = others.stage;
          own = others.own;
        }

    clean : (new : World) (honest pairs : List (Event × Answer)) (progress : Progress) → IsRun old pairs new → AreWithForged plan honest pairs → IsScript plan Start honest progress → IsClean old new progress honest pairs
    clean new honest pairs progress run put is = all old new [] Start progress honest pairs (refl, record { client = fresh.client; desk_is = refl }) (λ k there. tt) run put is

pub returns-clause-promised : goal.returns-clause-promised
returns-clause-promised c = λ plan old new honest pairs progress hard fresh run put is.
    let a = clean c plan old fresh hard new honest pairs progress run put is in
    subst (λ (l : List TurnEvent). HasCome plan old l progress new) a.same (c.honest_runs_allocate.ensures.promised plan old new honest progress fresh a.run is)

pub returns-clause-unchanged : goal.returns-clause-unchanged
returns-clause-unchanged c = λ plan old w v honest pairs progress event ret hard fresh run put is forged step.
    let a = clean c plan old fresh hard w honest pairs progress run put is in
    let r = forged_at c plan old fresh hard w v a.reported event ret forged step progress a.stage a.own in
    (r.same, r.silent)

pub returns-clause-without : goal.returns-clause-without
returns-clause-without c = λ plan old new honest pairs progress hard fresh run put is.
    let a = clean c plan old fresh hard new honest pairs progress run put is in
    (a.run, a.same)

pub returns-clause-numbers : goal.returns-clause-numbers
returns-clause-numbers c = λ plan old new honest pairs progress hard fresh run put is.
    let a = clean c plan old fresh hard new honest pairs progress run put is in
    numbered c plan old fresh new a.reported progress a.stage a.own
