use Rattle.std.proofs.Common.{◌≡◌, ◌<◌, ◌++◌, ℕ, List, [], ◌∷◌, Option, Some, None, ap, arith, refl, sym, ◌∙◌, subst, inl, inr}
use Rattle.std.specs.Prelude.{Vec}
use Rattle.std.specs.declared.alloc.Global.{Global}
use Rattle.std.specs.declared.net.socket_addr.SocketAddr.{SocketAddr}
use Rattle.turn_desk_core.specs.StunTypesBase.declared.transport.TransportType.{TransportType}
use Rattle.turn_desk_event.specs.StunProtoTransaction.Schedule.{end_at, transmissions}
use Rattle.turn_client_proto_api.specs.StunProtoAgent.State.{is_tcp}
use Rattle.turn_client_proto_api.specs.declared.event.TurnEvent.{TurnEvent}
use Rattle.turn_client_proto_handshake_laws.specs.Requested.{IsQuiet, count_of}
use Rattle.turn_client_proto_handshake_laws.specs.Choosing.{Choice, signed_requested, signed_sent, standing_by}
use Rattle.turn_client_proto_api.specs.Sent.{Sent, sent_of}
use Rattle.turn_client_proto_handshake_laws.specs.Stages.{HasSigned, Holds, created}
use Rattle.turn_client_proto_handshake_laws.specs.Coming.{IsPartOf}
use Rattle.turn_client_proto_messages.specs.Judging.{signer_of}
use Rattle.turn_client_proto_messages.specs.declared.request.TurnRequest.TheVariants.{FirstAllocate}
use Rattle.turn_client_proto_handshake_laws.specs.Sent.{first_number, first_request}
use Rattle.turn_desk_world_laws.specs.World.Calls.{IsTransmittedAs}
use Rattle.turn_client_proto_step_laws.specs.Recv.Control.{Control}
use Rattle.turn_desk_world_laws.specs.World.Desks.{IsReply}
use Rattle.turn_client_proto_step_laws.specs.Recv.ClientState.{ClientState, Protocol}
use Rattle.turn_desk_world_laws.specs.World.Model.{World}
use Rattle.turn_desk_world_laws.specs.World.Runs.{IsRun, IsStep}
use Rattle.turn_desk_event.specs.declared.answer.Answer.{Answer}
use Rattle.turn_desk_event.specs.declared.answer.Answer.TheVariants as answer
use Rattle.turn_desk_core.specs.declared.decision.Decision.{Decision}
use Rattle.turn_desk_event.specs.declared.event.ClientCall.{ClientCall}
use Rattle.turn_desk_event.specs.declared.event.ClientCall.TheVariants as call
use Rattle.turn_desk_event.specs.declared.event.Event.{Event}
use Rattle.turn_desk_event.specs.declared.event.Event.TheVariants.{Call, Draw, ToClient, ToDesk}
use Rattle.turn_desk_progress_laws.specs.Promises.{HasClient, IsFresh, control_at, events_in, over}
use Rattle.turn_desk_progress_laws.specs.Scripts.{AskFirst, AskSecond, Requested, Barred, BringsOn, Came, Challenged, Done, DrawFirst, DrawSecond, DrawsOn, Follows, GiveFirst, GiveSecond, Granted, IsLook, IsPolledAt, IsScript, Looks, Progress, Plan, Polls, Receives, Signed, Silent, Start, brought_first, brought_second, transmitted_first, transmitted_second, replied_first, replied_second}
use Rattle.turn_desk_progress_laws.specs.Standing.{HasTransmitted, IsReplied, IsAtStage}
use Rattle.turn_desk_progress_laws.proofs.Clients.{IsLooked, IsLookedOn, Still, Took, draws, looks, poll_rests}
use Rattle.turn_desk_progress_laws.proofs.Coming.{DoReach, DoWait, IsBroughtOn, brings, none_yet, waiting_rests}
use Rattle.turn_desk_progress_laws.proofs.Indexes.{first_fits}
use Rattle.turn_desk_progress_laws.proofs.Serving.{choice_of, unserved_of}
use Rattle.turn_desk_progress_laws.specs.Alone.{IsAlone, IsHeldAlone}
use Rattle.turn_desk_progress_laws.specs.Joining.{IsAtStep}
use Rattle.turn_desk_progress_laws.specs.Linked.{IsOverTcp}
use Rattle.turn_desk_progress_laws.specs.Links.{Held, Link}
use Rattle.turn_desk_progress_laws.proofs.Runs.{begin_run, begin_script, run_more, script_more}
use Rattle.turn_desk_progress_laws.proofs.Same.{run_same}
use Rattle.turn_desk_progress_laws.proofs.connections.handshakes_lead_on.Goals as goal

some_core : Protocol → Option ClientState → Protocol
some_core other None = other
some_core other (Some k) = k.core

-- A simulation has one client.
one_core : (c d : Control) (p q : Protocol) (o : Option ClientState) → o ≡ Some (over c p) → o ≡ Some (over d q) → p ≡ q
unfolding some_core
one_core c d p q o one other = ap (some_core p) (sym one ∙ other)

module _ (c : goal.After-holders_can_ask) (plan : Plan) (old : World) (fresh : IsFresh plan old) (tcp : IsOverTcp plan) where
  -- Over TCP a request is transmitted once.
  once : (choice : Choice) (now : ℕ) → IsQuiet plan.client (signed_requested plan.client choice) 1 now
  once choice now = λ more. (let count : count_of plan.client ≡ 1 = ap (λ (t : TransportType). transmissions (is_tcp t) plan.client.config.waits) tcp.over in absurd (omega (arith, more, count)))

  -- So it is queued no more.
  signed_so : (choice : Choice) (p : Protocol) → HasTransmitted plan choice p → p.queue ≡ [] → (used : ℕ) × HasSigned plan.client choice used plan.second p
  signed_so choice p d empty = elim d.is [
    | inl w ↦ absurd (Prim.cc (sym w.queue_is ∙ empty))
    | inr w ↦ (d.used, w)
  ]

  module _ (w v : World) (reported : List TurnEvent) where
    -- ---- a client as it was

    same_client : (head : List ℕ) (Is : Protocol → Type 0) → v.client ≡ w.client → HasClient plan head w Is → HasClient plan head v Is
    same_client head Is same h = record { core = h.core; there = same ∙ h.there; is = h.is }

    rested : (progress : Progress) → v ≡ w → IsAlone plan old progress w → IsAlone plan old progress v
    rested progress same is = subst (λ (x : World). IsAlone plan old progress x) (sym same) is

    -- ---- the second draw

    draws_second : (ret : Answer) → IsAtStage plan old reported Came w → IsStep (Draw plan.second) w ret v → IsAlone plan old (transmitted_second ret) v
    unfolding IsTransmittedAs
    draws_second ret (inl is) step =
        let h = is.1.chosen.client in
        let d = draws (control_at plan.client.transport []) w v h.core plan.second ret h.there fresh.timely.in_range step in
        by ret d.core d.there d.transmitted
      where
        by : (ret : Answer) (core : Protocol) → v.client ≡ Some (over (control_at plan.client.transport []) core) → IsTransmittedAs ret is.1.chosen.client.core plan.second core → IsAlone plan old (transmitted_second ret) v
        by (answer.Transmit sent) core there transmitted =
            let s = c.chosen_clients_sign.ensures.signs plan.client is.1.choice 1 plan.client.made is.1.chosen.client.core core plan.second (Some (sent_of sent)) is.1.chosen.client.is (once is.1.choice plan.second) fresh.timely.apart transmitted in
            record { core = core; there = there; is = s.1.queue_is }
        by answer.Nothing core there transmitted = tt
        by _ core there transmitted = absurd transmitted
    draws_second ret (inr is) step =
        let d = draws (control_at plan.client.transport []) w v is.client.core plan.second ret is.client.there fresh.timely.in_range step in
        by ret d.core d.transmitted
      where
        by : (ret : Answer) (core : Protocol) → IsTransmittedAs ret is.client.core plan.second core → IsAlone plan old (transmitted_second ret) v
        by (answer.Transmit sent) core transmitted = absurd (Prim.cc (c.ended_clients_rest.ensures.transmitted plan.client is.left is.client.core core plan.second (Some (sent_of sent)) is.client.is transmitted).0)
        by answer.Nothing core transmitted = tt
        by _ core transmitted = absurd transmitted

    -- ---- the desk's reply

    asks_second : (ret : Answer) (request : Sent) (bytes : Vec ℕ Global) (address : SocketAddr) (lifetime : ℕ) (decision : Decision) (seed : List ℕ) → IsAlone plan old (Signed request) w → IsStep (ToDesk bytes request.from plan.second decision seed) w ret v
        → IsAlone plan old (replied_second request address lifetime ret) v
    asks_second ret request bytes address lifetime decision seed h step = by ret step.0.reply
      where
        by : (r : Answer) → IsReply r w.desk bytes.items request.from plan.second decision seed v.desk → IsAlone plan old (replied_second request address lifetime r) v
        by (answer.Reply reply) is = same_client [] (λ p. p.queue ≡ []) (ap (λ (x : World). x.client) step.1) h
        by answer.Nothing is = tt
        by _ is = absurd is

    -- ---- its delivery

    reach : DoReach
    reach = record { datagram = c.messages_reach_clients.ensures.datagram; chunk = c.messages_reach_clients.ensures.chunk; whole = c.messages_reach_clients.ensures.whole }

    module _ (request : Sent) (address : SocketAddr) (lifetime : ℕ) (reply head : List ℕ) (r : IsReplied plan old request address lifetime reply head w) (h : HasClient plan head w (λ p. p.queue ≡ [])) where
      same_core : h.core ≡ r.client.core
      same_core = one_core (control_at plan.client.transport head) (control_at plan.client.transport head) h.core r.client.core w.client h.there r.client.there

      signed : (used : ℕ) × HasSigned plan.client r.choice used plan.second r.client.core
      signed = signed_so r.choice r.client.core r.client.is (subst (λ (p : Protocol). p.queue ≡ []) same_core h.is)

      gives_second : (ret : Answer) (rest : List ℕ) (bytes : Vec ℕ Global) → BringsOn plan.client.transport reply head bytes.items rest → IsStep (ToClient bytes plan.client.server plan.client.here plan.second) w ret v
          → IsAlone plan old (brought_second request address lifetime reply (head ++ bytes.items) rest) v
      gives_second ret rest bytes on step =
          by rest (brings reach plan.client w v r.client.core reply head rest bytes plan.second ret r.client.there (unserved_of plan r.choice r.client.core r.client.is c.stages_are_unserved.ensures.signing) r.is.message on fresh.timely.in_range step)
        where
          by : (rest : List ℕ) → IsBroughtOn plan.client.transport r.client.core reply (head ++ bytes.items) rest plan.second ret w v → IsAlone plan old (brought_second request address lifetime reply (head ++ bytes.items) rest) v
          by [] is =
              let held = c.granted_clients_hold.ensures.holds plan.client r.choice signed.0 plan.second [] r.client.core is.core address lifetime reply plan.second is.handled signed.1 r.is.asks r.is.grant is.processed in
              record {
                choice = r.choice;
                chosen = choice_of plan r.choice r.client.core r.client.is;
                of = r.is.of;
                left = created plan.client address;
                client = record { core = is.core; there = is.there; is = held.1 };
              }
          by (byte ∷ rest) is = record { core = r.client.core; there = is.0.there; is = signed.1.queue_is }

    -- ---- a look

    module _ (ret : Answer) (what : ClientCall) (now : ℕ) (look : IsLook what) (step : IsStep (Call what now) w ret v) where
      queue_looks : (head : List ℕ) → HasClient plan head w (λ p. p.queue ≡ []) → HasClient plan head v (λ p. p.queue ≡ [])
      queue_looks head h = (
          let l = looks (control_at plan.client.transport head) w v h.core what now ret h.there look step in
          record { core = l.core; there = l.there; is = by l.core l.looked })
        where
          by : (q : Protocol) → IsLooked h.core ret q → q.queue ≡ []
          by q (Took event taken reported) = ap (λ (p : Protocol). p.queue) taken.others ∙ h.is
          by q (Still same reported) = ap (λ (p : Protocol). p.queue) same ∙ h.is

      held_looks : (address : SocketAddr) (lifetime : ℕ) → IsHeldAlone plan old address lifetime w → IsHeldAlone plan old address lifetime v
      held_looks address lifetime h = by l.core l.looked l.there
        where
          l : IsLookedOn (control_at plan.client.transport []) h.client.core ret w v
          l = looks (control_at plan.client.transport []) w v h.client.core what now ret h.client.there look step

          by : (q : Protocol) → IsLooked h.client.core ret q → v.client ≡ Some (over (control_at plan.client.transport []) q) → IsHeldAlone plan old address lifetime v
          by q (Took event taken reported) there =
              let t = c.stages_are_reported.ensures.held plan.client h.choice address lifetime plan.second plan.second [] h.left h.client.core q event h.client.is taken in
              record { choice = h.choice; chosen = h.chosen; of = h.of; left = t.0; client = record { core = q; there = there; is = t.2 } }
          by q (Still same reported) there = record { choice = h.choice; chosen = h.chosen; of = h.of; left = h.left; client = record { core = q; there = there; is = subst (λ (p : Protocol). Holds plan.client h.choice address lifetime plan.second plan.second [] h.left p) (sym same) h.client.is } }

      looks_at : (progress : Progress) → IsAlone plan old progress w → IsAlone plan old progress v
      looks_at Start is = tt
      looks_at (Requested request) is = tt
      looks_at (Challenged request reply head) is = tt
      looks_at Came is = tt
      looks_at (Signed request) is = queue_looks [] is
      looks_at (Granted request address lifetime reply head) is = queue_looks head is
      looks_at (Done request address lifetime reply) is = held_looks address lifetime is
      looks_at Barred is = tt
      looks_at Silent is = tt

    -- ---- a poll

    module _ (ret : Answer) (now : ℕ) (before : now < end_at plan.client.made plan.client.config.waits) (step : IsStep (Call call.Poll now) w ret v) where
      queue_polls : (head : List ℕ) (choice : Choice) → choice.made ≡ plan.client.made → (d : HasClient plan head w (HasTransmitted plan choice)) → HasClient plan head w (λ p. p.queue ≡ []) → HasClient plan head v (λ p. p.queue ≡ [])
      queue_polls head choice made d h =
          let same = one_core (control_at plan.client.transport head) (control_at plan.client.transport head) h.core d.core w.client h.there d.there in
          let s = signed_so choice d.core d.is (subst (λ (p : Protocol). p.queue ≡ []) same h.is) in
          let rests = poll_rests (control_at plan.client.transport head) w v d.core now ret d.there
          (λ r q polled. (c.signed_clients_wait.ensures.polled plan.client choice s.0 plan.second d.core q now r s.1 (subst (λ (m : ℕ). now < end_at m plan.client.config.waits) (sym made) before) polled).unchanged) step in
          same_client head (λ p. p.queue ≡ []) (ap (λ (x : World). x.client) rests.same) h

      polls_at : (progress : Progress) → IsPolledAt progress → IsAtStage plan old reported progress w → IsAlone plan old progress w → IsAlone plan old progress v
      polls_at Start at s is = tt
      polls_at (Requested request) at s is = tt
      polls_at (Challenged request reply head) at s is = tt
      polls_at Came at s is = tt
      polls_at (Signed request) at s is = queue_polls [] s.1.choice s.1.chosen.made s.1.chosen.client is
      polls_at (Granted request address lifetime reply head) at s is = queue_polls head s.1.choice s.1.is.made s.1.client is
      polls_at (Done request address lifetime reply) at s is = absurd at
      polls_at Barred at s is = tt
      polls_at Silent at s is = tt

    -- ---- what has come is requested

    module _ (ret : Answer) (now : ℕ) (step : IsStep (Call call.PollRecv now) w ret v) where
      -- Nothing of a message has come: here of the first request.
      started : IsPartOf [] (first_request plan.client)
      started = none_yet (first_request plan.client)
          (c.proof_requests_are_read.ensures.message (signer_of plan.client.config) (FirstAllocate plan.client.config.transport plan.client.config.families plan.client.config.options) (first_number plan.client)
          (c.new_clients_ask.ensures.short plan.client fresh.room) fresh.room.1 (first_fits plan.client))

      wait : DoWait
      wait = record { waiting = c.messages_reach_clients.ensures.waiting; none_waits = c.messages_reach_clients.ensures.none_waits }

      receives_at : (progress : Progress) → IsAtStage plan old reported progress w → IsAlone plan old progress w → IsAlone plan old progress v
      receives_at Start s is = tt
      receives_at (Requested request) s is = tt
      receives_at (Challenged request reply head) s is = tt
      receives_at Came s is = tt
      receives_at (Signed request) s is =
          let u = unserved_of plan s.1.choice s.1.chosen.client.core s.1.chosen.client.is c.stages_are_unserved.ensures.signing in
          rested (Signed request) (waiting_rests wait plan.client w v s.1.chosen.client.core [] (first_request plan.client) now ret s.1.chosen.client.there (c.stages_are_unserved.ensures.none_waits plan.client s.1.chosen.client.core u) started step).same is
      receives_at (Granted request address lifetime reply head) s is =
          let u = unserved_of plan s.1.choice s.1.client.core s.1.client.is c.stages_are_unserved.ensures.signing in
          rested (Granted request address lifetime reply head) (waiting_rests wait plan.client w v s.1.client.core head reply now ret s.1.client.there (c.stages_are_unserved.ensures.none_waits plan.client s.1.client.core u) s.1.part step).same is
      receives_at (Done request address lifetime reply) s is =
          rested (Done request address lifetime reply) (waiting_rests wait plan.client w v is.client.core [] reply now ret is.client.there
          (c.stages_are_unserved.ensures.held plan.client is.choice address lifetime plan.second plan.second [] is.left is.client.core is.client.is) (none_yet reply s.is.message) step).same is
      receives_at Barred s is = tt
      receives_at Silent s is = tt

    -- ---- one event

    module _ (progress next : Progress) (event : Event) (ret : Answer) where
      abbrev At : Progress → Event → Progress → Type 0
      At from happening to = IsAtStage plan old reported from w → IsAlone plan old from w → IsStep happening w ret v → IsAlone plan old to v

      as_said : (from : Progress) (happening : Event) (to : Progress) → progress ≡ from → event ≡ happening → next ≡ to → At from happening to → At progress event next
      as_said from happening to one two three is = λ occurs alone step.
          subst (λ (n : Progress). IsAlone plan old n v) (sym three)
          (is (subst (λ (p : Progress). IsAtStage plan old reported p w) one occurs) (subst (λ (p : Progress). IsAlone plan old p w) one alone) (subst (λ (e : Event). IsStep e w ret v) two step))

      first_transmitted : (r : Answer) → IsAlone plan old (transmitted_first r) v
      first_transmitted (answer.Transmit sent) = tt
      first_transmitted _ = tt

      first_replied : (request : Sent) (r : Answer) → IsAlone plan old (replied_first request r) v
      first_replied request (answer.Reply reply) = tt
      first_replied request _ = tt

      first_brought : (request : Sent) (reply head rest : List ℕ) → IsAlone plan old (brought_first request reply head rest) v
      first_brought request reply head [] = tt
      first_brought request reply head (byte ∷ rest) = tt

      own_step : (request : Sent) (bytes : Vec ℕ Global) (choice : Choice) → request ≡ signed_sent plan.client choice → IsStep (ToClient bytes request.to request.from plan.second) w ret v → IsStep (ToClient bytes plan.client.server plan.client.here plan.second) w ret v
      own_step request bytes choice is step = subst (λ (r : Sent). IsStep (ToClient bytes r.to r.from plan.second) w ret v) is step

      pub one : Follows plan progress event ret next → At progress event next
      one (DrawFirst at is to) = as_said _ _ _ at is to (λ occurs alone step. first_transmitted ret)
      one (AskFirst request bytes decision seed at same is to) = as_said _ _ _ at is to (λ occurs alone step. first_replied request ret)
      one (GiveFirst request reply head rest bytes at on is to) = as_said _ _ _ at is to (λ occurs alone step. first_brought request reply (head ++ bytes.items) rest)
      one (DrawSecond at is to) = as_said _ _ _ at is to (λ occurs alone step. draws_second ret occurs step)
      one (AskSecond request bytes address lifetime seed at same asks whole is to) =
          as_said _ _ _ at is to (λ occurs alone step. asks_second ret request bytes address lifetime _ seed alone step)
      one (GiveSecond request address lifetime reply head rest bytes at on is to) =
          as_said _ _ _ at is to (λ occurs alone step. gives_second request address lifetime reply head occurs.1 alone ret rest bytes on (own_step request bytes occurs.1.choice occurs.1.is.request_is step))
      one (Looks what now look is to) = as_said _ _ _ refl is to (λ occurs alone step. looks_at ret what now look step progress alone)
      one (Polls now at before is to) = as_said _ _ _ refl is to (λ occurs alone step. polls_at ret now before step progress at occurs alone)
      one (Receives now is to) = as_said _ _ _ refl is to (λ occurs alone step. receives_at ret now step progress occurs alone)
      one (DrawsOn now at is to) = as_said _ _ _ at is to (λ occurs alone step. tt)

  -- ---- all of them

  -- A run with one more event.
  is_active_next : (w v : World) (reported : List TurnEvent) (progress next : Progress) (pair : Event × Answer) → Follows plan progress pair.0 pair.1 next → IsStep pair.0 w pair.1 v → (before : List (Event × Answer)) → IsRun old before w → IsScript plan Start before progress
      → IsRun old (before ++ pair ∷ []) v × IsScript plan Start (before ++ pair ∷ []) next
  is_active_next w v reported progress next pair follows step before run script = (run_more old w v before pair run step, script_more plan Start progress next before pair script follows)

  all : (w new : World) (before pairs : List (Event × Answer)) (progress last : Progress) → IsRun old before w → IsScript plan Start before progress → IsAlone plan old progress w → IsRun w pairs new → IsScript plan progress pairs last → IsAlone plan old last new
  unfolding IsRun IsScript
  all w new before [] progress last run script alone more is =
      subst (λ (p : Progress). IsAlone plan old p new) (sym is) (subst (λ (x : World). IsAlone plan old progress x) (sym more) alone)
  all w new before (pair ∷ pairs) progress last run script alone more is =
      let occurs = c.honest_runs_allocate.ensures.occurs plan old w before progress fresh run script in
      let then_ = is_active_next w more.0 (events_in before) progress is.0 pair is.1 more.1 before run script in
      all more.0 new (before ++ pair ∷ []) pairs is.0 last then_.0 then_.1 (one w more.0 (events_in before) progress is.0 pair.0 pair.1 is.1 occurs alone more.1) more.2 is.2

  -- ---- where it leads

  pub leads : (new : World) (pairs : List (Event × Answer)) (request : Sent) (address : SocketAddr) (lifetime : ℕ) (reply : List ℕ) (link : Link) → IsRun old pairs new → IsScript plan Start pairs (Done request address lifetime reply) → IsAtStep plan old address lifetime link Held new
  leads new pairs request address lifetime reply link run script =
      let h = all old new [] pairs Start (Done request address lifetime reply) (begin_run old) (begin_script plan Start) tt run script in
      record {
        auth = _;
        standing = standing_by plan.client h.choice;
        of = record {
          account = refl;
          realm = h.of.realm;
          reported = h.choice.reported;
          choice = h.choice.algorithm;
          of = h.of;
          answered = record {
            strongest = h.chosen.answered.strongest;
            anonymous = h.chosen.answered.anonymous;
            listed = h.chosen.answered.listed;
          };
        };
        desk = run_same link old old new pairs run (record { realm = refl; users = refl; algorithms = refl; anonymous = refl; decodes = λ own. own });
        events = h.left;
        client = record {
          core = h.client.core;
          there = h.client.there;
          is = c.holders_can_ask.ensures.holds plan.client h.choice address lifetime plan.second plan.second h.left h.client.core fresh.room fresh.text h.chosen tcp.over tcp.relays h.client.is;
        };
      }

pub returns : goal.returns
returns c = λ plan old new pairs request address lifetime reply link fresh tcp run script. leads c plan old fresh tcp new pairs request address lifetime reply link run script
