-- The events over an honest network, and the place to which each leads.
use Rattle.std.proofs.Common.{◌≡◌, ◌≢◌, ◌++◌, ℕ, List, [], ◌∷◌, refl, sym, ◌∙◌, subst}
use Rattle.std.proofs.lemmas.List.{append-nil}
use Rattle.std.specs.declared.net.socket_addr.SocketAddr.{SocketAddr}
use Rattle.stun_types_base.specs.declared.data.Data.{Data}
use Rattle.stun_types_base.specs.declared.transmit.Transmit.{Transmit}
use Rattle.stun_types_base.specs.declared.transport.TransportType.{TransportType}
use Rattle.stun_types_base.specs.declared.transport.TransportType.TheVariants.{Udp, Tcp}
use Rattle.turn_client_proto_api.specs.Sent.{Sent, sent_of}
use Rattle.turn_desk_world_laws.specs.TurnClientProtoStepLaws.Sound.{IsWhole}
use Rattle.turn_desk_progress_laws.specs.TurnClientProtoHandshakeLaws.Stages.{AsksForOne}
use Rattle.turn_desk_progress_laws.specs.Promises.{IsFresh, events_in}
use Rattle.turn_desk_progress_laws.specs.Scripts.{AskFirst, AskSecond, Requested, Barred, BringsOn, Came, Challenged, Done, DrawFirst, DrawSecond, Follows, GiveFirst, GiveSecond, Granted, IsScript, Progress, Plan, Signed, Silent, Start, transmitted_first, transmitted_second, replied_first, replied_second}
use Rattle.turn_desk_progress_laws.specs.Standing.{IsAtStage}
use Rattle.turn_desk_event.specs.declared.answer.Answer.{Answer}
use Rattle.turn_desk_event.specs.declared.answer.Answer.TheVariants as answer
use Rattle.turn_desk_core.specs.declared.decision.Decision.{Decision}
use Rattle.turn_desk_core.specs.declared.decision.Decision.TheVariants as by
use Rattle.turn_desk_event.specs.declared.event.Event.{Event}
use Rattle.turn_desk_event.specs.declared.event.Event.TheVariants.{Draw, ToClient, ToDesk}
use Rattle.turn_desk_world.specs.Model.{World}
use Rattle.turn_desk_world.specs.Runs.{IsRun}
use Rattle.test_driver.specs.Driving.{Happened}
use Rattle.test_honest_network.specs.Exchanges.{IsRequested, IsNoReply, IsSent, IsUnsent, SendsNothing}
use Rattle.test_honest_network.specs.declared.exchange.Carried.TheVariants.{Unanswered, Replied}

-- ---- where responses lead

unsent_first : (ret : Answer) → SendsNothing ret → transmitted_first ret ≡ Silent
unsent_first (answer.Transmit sent) none = absurd none
unsent_first _ none = refl

unsent_second : (ret : Answer) → SendsNothing ret → transmitted_second ret ≡ Barred
unsent_second (answer.Transmit sent) none = absurd none
unsent_second _ none = refl

unanswered_first : (request : Sent) (ret : Answer) → IsNoReply ret → replied_first request ret ≡ Silent
unanswered_first request (answer.Reply reply) none = absurd none
unanswered_first request _ none = refl

unanswered_second : (request : Sent) (address : SocketAddr) (lifetime : ℕ) (ret : Answer) → IsNoReply ret → replied_second request address lifetime ret ≡ Silent
unanswered_second request address lifetime (answer.Reply reply) none = absurd none
unanswered_second request address lifetime _ none = refl

-- ---- runs that lead from one position to another

module _ (plan : Plan) where
  pub record Leads (old : World) (from : Progress) (new : World) (to : Progress) : Type 0 where
    pub pairs : List (Event × Answer)
    pub run : IsRun old pairs new
    pub script : IsScript plan from pairs to

  one : (old new : World) (from to : Progress) (event : Event) (ret : Answer) → Happened event old ret new → Follows plan from event ret to → Leads old from new to
  unfolding IsScript
  one old new from to event ret step follows = record { pairs = (event, ret) ∷ []; run = step; script = (to, follows, refl) }

  pub run_on : (old middle new : World) (pairs others : List (Event × Answer)) → IsRun old pairs middle → IsRun middle others new → IsRun old (pairs ++ others) new
  unfolding IsRun
  run_on old middle new [] others first second = subst (λ (w : World). IsRun w others new) first second
  run_on old middle new (pair ∷ pairs) others first second = (first.0, first.1, run_on first.0 middle new pairs others first.2 second)

  script_on : (from middle to : Progress) (pairs others : List (Event × Answer)) → IsScript plan from pairs middle → IsScript plan middle others to → IsScript plan from (pairs ++ others) to
  unfolding IsScript
  script_on from middle to [] others first second = subst (λ (p : Progress). IsScript plan p others to) first second
  script_on from middle to (pair ∷ pairs) others first second = (first.0, first.1, script_on first.0 middle to pairs others first.2 second)

  pub then_on : (old middle new : World) (from at to : Progress) → Leads old from middle at → Leads middle at new to → Leads old from new to
  then_on old middle new from at to first second = record {
    pairs = first.pairs ++ second.pairs;
    run = run_on old middle new first.pairs second.pairs first.run second.run;
    script = script_on from at to first.pairs second.pairs first.script second.script;
  }

  -- An honest network may deliver a whole reply at once.
  pub whole : (reply : List ℕ) → reply ≢ [] → (transport : TransportType) → BringsOn transport reply [] reply []
  whole reply some Udp = (refl, refl)
  whole reply some Tcp = (some, sym (append-nil reply))

  -- ---- with what the theorem on an honest network says

  module _ (old : World) (fresh : IsFresh plan old)
      (law : (new : World) (pairs : List (Event × Answer)) (progress : Progress) → IsRun old pairs new → IsScript plan Start pairs progress → IsAtStage plan old (events_in pairs) progress new) where
    -- A reply of the server core is not empty.
    some_first : (new : World) (request : Sent) (reply : List ℕ) → Leads old Start new (Challenged request reply []) → reply ≢ []
    some_first new request reply leads = λ none.
        let part = (law new leads.pairs (Challenged request reply []) leads.run leads.script).1.part in
        part.more (sym part.parts ∙ none)

    some_second : (new : World) (request : Sent) (address : SocketAddr) (lifetime : ℕ) (reply : List ℕ) → Leads old Start new (Granted request address lifetime reply []) → reply ≢ []
    some_second new request address lifetime reply leads = λ none.
        let part = (law new leads.pairs (Granted request address lifetime reply []) leads.run leads.script).1.part in
        part.more (sym part.parts ∙ none)

    -- ---- the first exchange

    module _ (decision : Decision) where
      requested_first : (sent : Transmit Data) (w new : World) (ret : Answer) → IsRequested sent plan.client.made decision w ret new → Leads w (Requested (sent_of sent)) new (replied_first (sent_of sent) ret)
      requested_first sent w new ret is = one w new (Requested (sent_of sent)) (replied_first (sent_of sent) ret) (ToDesk is.bytes sent.from plan.client.made decision is.seed) ret is.step
          (AskFirst (sent_of sent) is.bytes decision is.seed refl is.same refl refl)

      generated_so : (sent : Transmit Data) (w : World) → Happened (Draw plan.client.made) old (answer.Transmit sent) w → Leads old Start w (Requested (sent_of sent))
      generated_so sent w step = one old w Start (Requested (sent_of sent)) (Draw plan.client.made) (answer.Transmit sent) step (DrawFirst refl refl refl)

      pub replied : (new : World) → IsSent plan.client.made decision old Replied new → Leads old Start new Came
      replied new is =
          let d = is.delivered in
          let requested = then_on old is.transmitted d.replied Start (Requested (sent_of is.sent)) (Challenged (sent_of is.sent) d.reply.items []) (generated_so is.sent is.transmitted is.step)
          (requested_first is.sent is.transmitted d.replied (answer.Reply d.reply) d.requested) in
          then_on old d.replied new Start (Challenged (sent_of is.sent) d.reply.items []) Came requested
          (one d.replied new (Challenged (sent_of is.sent) d.reply.items []) Came (ToClient d.reply is.sent.to is.sent.from plan.client.made) d.ret d.given
          (GiveFirst (sent_of is.sent) d.reply.items [] [] d.reply refl (whole d.reply.items (some_first d.replied (sent_of is.sent) d.reply.items requested) plan.client.transport) refl refl))

      pub silent : (new : World) → IsSent plan.client.made decision old Unanswered new → Leads old Start new Silent
      silent new is =
          let d = is.delivered in
          then_on old is.transmitted new Start (Requested (sent_of is.sent)) Silent (generated_so is.sent is.transmitted is.step)
          (subst (λ (p : Progress). Leads is.transmitted (Requested (sent_of is.sent)) new p) (unanswered_first (sent_of is.sent) d.ret d.none) (requested_first is.sent is.transmitted new d.ret d.requested))

    pub mute : (new : World) → IsUnsent plan.client.made old new → Leads old Start new Silent
    mute new is = one old new Start Silent (Draw plan.client.made) is.ret is.step (DrawFirst refl refl (sym (unsent_first is.ret is.none)))

    -- ---- the second one

    module _ (middle : World) (first : Leads old Start middle Came) (address : SocketAddr) (asks : AsksForOne plan.client address) (is_whole : IsWhole address) (lifetime : ℕ) where
      abbrev decided : Decision
      decided = by.Allocate (address ∷ []) lifetime

      signed_so : (sent : Transmit Data) (w : World) → Happened (Draw plan.second) middle (answer.Transmit sent) w → Leads old Start w (Signed (sent_of sent))
      signed_so sent w step = then_on old middle w Start Came (Signed (sent_of sent)) first (one middle w Came (Signed (sent_of sent)) (Draw plan.second) (answer.Transmit sent) step (DrawSecond refl refl refl))

      requested_second : (sent : Transmit Data) (w new : World) (ret : Answer) → IsRequested sent plan.second decided w ret new → Leads w (Signed (sent_of sent)) new (replied_second (sent_of sent) address lifetime ret)
      requested_second sent w new ret is = one w new (Signed (sent_of sent)) (replied_second (sent_of sent) address lifetime ret) (ToDesk is.bytes sent.from plan.second decided is.seed) ret is.step
          (AskSecond (sent_of sent) is.bytes address lifetime is.seed refl is.same asks is_whole refl refl)

      pub allocated : (new : World) → IsSent plan.second decided middle Replied new → (request : Sent) × (reply : List ℕ) × Leads old Start new (Done request address lifetime reply)
      allocated new is =
          let d = is.delivered in
          let request = sent_of is.sent in
          let granted = then_on old is.transmitted d.replied Start (Signed request) (Granted request address lifetime d.reply.items []) (signed_so is.sent is.transmitted is.step)
          (requested_second is.sent is.transmitted d.replied (answer.Reply d.reply) d.requested) in (
            request,
            d.reply.items,
            then_on old d.replied new Start (Granted request address lifetime d.reply.items []) (Done request address lifetime d.reply.items) granted
                (one d.replied new (Granted request address lifetime d.reply.items []) (Done request address lifetime d.reply.items) (ToClient d.reply is.sent.to is.sent.from plan.second) d.ret d.given
                (GiveSecond request address lifetime d.reply.items [] [] d.reply refl (whole d.reply.items (some_second d.replied request address lifetime d.reply.items granted) plan.client.transport) refl refl)),
          )

      pub unanswered : (new : World) → IsSent plan.second decided middle Unanswered new → Leads old Start new Silent
      unanswered new is =
          let d = is.delivered in
          then_on old is.transmitted new Start (Signed (sent_of is.sent)) Silent (signed_so is.sent is.transmitted is.step)
          (subst (λ (p : Progress). Leads is.transmitted (Signed (sent_of is.sent)) new p) (unanswered_second (sent_of is.sent) address lifetime d.ret d.none) (requested_second is.sent is.transmitted new d.ret d.requested))

      pub barred : (new : World) → IsUnsent plan.second middle new → Leads old Start new Barred
      barred new is = then_on old middle new Start Came Barred first (one middle new Came Barred (Draw plan.second) is.ret is.step (DrawSecond refl refl (sym (unsent_second is.ret is.none))))
