use Rattle.std.proofs.Common.{◌≡◌, ◌≤◌, ◌++◌, ℕ, List, [], ◌∷◌, refl, sym, subst}
use Rattle.std.specs.declared.net.socket_addr.SocketAddr.{SocketAddr}
use Rattle.turn_desk_core.specs.StunTypesBase.Family.{family_of_socket}
use Rattle.turn_client_proto_api.specs.Sent.{Sent}
use Rattle.turn_desk_event.specs.declared.answer.Answer.{Answer}
use Rattle.turn_desk_event.specs.declared.answer.Answer.TheVariants as answer
use Rattle.turn_desk_event.specs.declared.event.ClientCall.{ClientCall}
use Rattle.turn_desk_event.specs.declared.event.ClientCall.TheVariants as call
use Rattle.turn_desk_event.specs.declared.event.Event.{Event}
use Rattle.turn_desk_event.specs.declared.event.Event.TheVariants.{Call}
use Rattle.turn_desk_world_laws.specs.World.Model.{World}
use Rattle.turn_desk_world_laws.specs.World.Runs.{IsStep}
use Rattle.turn_desk_progress_laws.specs.Linked.{IsOverTcp}
use Rattle.turn_desk_progress_laws.specs.Loops.{MayBegin}
use Rattle.turn_desk_progress_laws.specs.Scripts.{IsLook, Plan}
use Rattle.turn_desk_progress_laws.proofs.Looping.{passes}
use Rattle.turn_desk_laws.specs.ConnectionLoops.{Answered, AsksConnect, AsksPermission, Bind, Bound, Challenged, Challenges, Clear, Connect, Draws, GivesBind, GivesConnect, GivesPart, GivesPermission, Grants, Held, IsNext}
use Rattle.turn_desk_laws.specs.ConnectionLoops.{Known, Leads, Looks, Method, Off, Opens, Permission, Permitted, Polls, Position, Queued, Reached, Receives, Target, Timing, Transmitted, TurnsAll, TurnsPart, Unpermitted, Waiting}
use Rattle.turn_desk_laws.specs.ConnectionLoops.{after_draw, after_look, after_poll, called, challenged, timing_after_draw, emptied, polled}
use Rattle.turn_desk_laws.specs.ConnectionPromises.{HasReached, IsGivenBy}
use Rattle.turn_desk_laws.specs.ConnectionStages.{IsAtPosition, IsOfFamily, IsStage}
use Rattle.turn_desk_laws.proofs.ConnectionTools.{itself}
use Rattle.turn_desk_laws.proofs.connections.events_of_connections_lead_on.Goals as goal

-- ---- the family

module _ (target : Target) (address : SocketAddr) where
  abbrev Same : Type 0
  Same = family_of_socket target.peer ≡ family_of_socket address

  of_transmitted : (method : Method) (r : Answer) → Same → IsOfFamily target address (after_draw (Queued method) r)
  of_transmitted method (answer.Transmit message) same = same
  of_transmitted method _ same = same

  of_drawn : (reached : Reached) (r : Answer) → IsOfFamily target address reached → IsOfFamily target address (after_draw reached r)
  of_drawn Held r of = of
  of_drawn Unpermitted r of = of
  of_drawn (Queued method) r of = of_transmitted method r of
  of_drawn (Transmitted method request) r of = of
  of_drawn (Answered method request reply head) r of = of
  of_drawn (Challenged method request reply head) r of = of
  of_drawn Permitted r of = of
  of_drawn Known r of = of
  of_drawn Clear r of = of
  of_drawn (Waiting connection socket peer) r of = of
  of_drawn (Bound more) r of = of
  of_drawn Off r of = of

  of_known : (r : Answer) → Same → IsOfFamily target address (polled r Known)
  of_known (answer.Socket id socket peer) same = same
  of_known _ same = same

  of_clear : (r : Answer) → Same → IsOfFamily target address (polled r Off)
  of_clear (answer.Socket id socket peer) same = same
  of_clear _ same = same

  of_polled : (reached : Reached) (r : Answer) → IsOfFamily target address reached → IsOfFamily target address (after_poll reached r)
  of_polled Held r of = of
  of_polled Unpermitted r of = of
  of_polled (Queued method) r of = of
  of_polled (Transmitted method request) r of = of
  of_polled (Answered method request reply head) r of = of
  of_polled (Challenged method request reply head) r of = of
  of_polled Permitted r of = of
  of_polled Known r of = of_known r of
  of_polled Clear r of = of_clear r of
  of_polled (Waiting connection socket peer) r of = of
  of_polled (Bound more) r of = of
  of_polled Off r of = of

  of_event : (r : Answer) → Same → IsOfFamily target address (emptied call.PollEvent r)
  of_event answer.Nothing same = same
  of_event _ same = same

  of_emptied : (what : ClientCall) (r : Answer) → Same → IsOfFamily target address (emptied what r)
  of_emptied call.PollEvent r same = of_event r same
  of_emptied _ r same = same

  of_looked : (what : ClientCall) (reached : Reached) (r : Answer) → IsOfFamily target address reached → IsOfFamily target address (after_look what reached r)
  of_looked what Held r of = of
  of_looked what Unpermitted r of = of
  of_looked what (Queued method) r of = of
  of_looked what (Transmitted method request) r of = of
  of_looked what (Answered method request reply head) r of = of
  of_looked what (Challenged method request reply head) r of = of
  of_looked what Permitted r of = of
  of_looked what Known r of = of_emptied what r of
  of_looked what Clear r of = of
  of_looked what (Waiting connection socket peer) r of = of
  of_looked what (Bound more) r of = of
  of_looked what Off r of = of

  of_called : (method : Method) (r : Answer) → Same → IsOfFamily target address (called r (Queued method) Off)
  of_called method answer.Done same = same
  of_called method _ same = same

-- ---- one event

sooner_drawn : (t : Timing) (now : ℕ) (r : Answer) → t.oldest ≤ now → (timing_after_draw now r t).oldest ≤ now
sooner_drawn t now (answer.Transmit message) sooner = sooner
sooner_drawn t now _ sooner = sooner

sooner_challenged : (t : Timing) (method : Method) (now : ℕ) (request : Sent) (reply : List ℕ) → t.oldest ≤ now → (challenged method now request reply t).oldest ≤ now
sooner_challenged t Permission now request reply sooner = itself now
sooner_challenged t Connect now request reply sooner = itself now
sooner_challenged t Bind now request reply sooner = sooner

module _ (c : goal.After-connections_are_listed) (plan : Plan) (old w v : World) (target : Target) (address : SocketAddr) (lifetime since : ℕ) where
  -- What is promised.
  promise : (t : Timing) (reached : Reached) → IsStage plan old target address lifetime since reached t w → HasReached plan old address target reached t w
  promise t Held s = tt
  promise t Unpermitted s = s
  promise t (Queued method) s = tt
  promise t (Transmitted method request) s = c.transmitted_requests_are_signed.ensures plan old w target address lifetime since t method request s
  promise t (Answered method request reply head) s = tt
  promise t (Challenged method request reply head) s = tt
  promise t Permitted s = tt
  promise t Known s = tt
  promise t Clear s = tt
  promise t (Waiting connection socket peer) s = s.client.is.socket_is
  promise t (Bound more) s = record { core = s.client.core; there = s.client.there; is = c.connections_are_listed.ensures.visible _ _ _ _ _ _ _ _ _ _ s.client.is.is }
  promise t Off s = s

  module _ (position next : Position) (event : Event) (ret : Answer) (may : MayBegin plan old) (tcp : IsOverTcp plan) (is : IsAtPosition plan old target address lifetime since position w) where
    abbrev t : Timing
    t = position.timing

    abbrev At : Position → Type 0
    At to = IsAtPosition plan old target address lifetime since to v

    abbrev After : Position → Event → Type 0
    After to happening = At to × IsGivenBy plan old target position w happening ret

    -- With the event and the next position as a constructor has them.
    as_said : (happening : Event) (to : Position) → event ≡ happening → next ≡ to → (IsStep happening w ret v → After to happening) → IsStep event w ret v → After next event
    as_said happening to one two so step =
        let s = so (subst (λ (e : Event). IsStep e w ret v) one step) in
        subst (λ (n : Position). After n event) (sym two) (subst (λ (e : Event). After to e) (sym one) s)

    -- With the result too.
    as_answered : (happening : Event) (r : Answer) (to : Position) → event ≡ happening → ret ≡ r → next ≡ to → (IsStep happening w r v → At to × IsGivenBy plan old target position w happening ret) → IsStep event w ret v → After next event
    as_answered happening r to one replied two so = as_said happening to one two (λ step. so (subst (λ (x : Answer). IsStep happening w x v) replied step))

    stage_at : (reached : Reached) → position.reached ≡ reached → IsStage plan old target address lifetime since reached t w
    stage_at reached at = subst (λ (r : Reached). IsStage plan old target address lifetime since r t w) at is.stage

    family_at : (reached : Reached) → position.reached ≡ reached → IsOfFamily target address reached
    family_at reached at = subst (λ (r : Reached). IsOfFamily target address r) at is.family

    sooner : (now : ℕ) → IsNext position now → t.oldest ≤ now
    sooner now soon = passes t.oldest position.last now is.sooner soon.later

    -- A look gives nothing that is said.
    look_given : (what : ClientCall) (now : ℕ) → IsLook what → IsGivenBy plan old target position w (Call what now) ret
    look_given call.PollEvent now look = tt
    look_given (call.HavePermission transport ip) now look = tt
    look_given (call.Permissions transport relayed) now look = tt
    look_given call.Channels now look = tt
    look_given call.Connections now look = tt
    look_given call.RelayedAddresses now look = tt
    look_given _ now look = absurd look

    one : Leads plan lifetime since target position event ret next → IsStep event w ret v → After next event
    one (AsksPermission now at soon before is_event to) = as_said _ _ is_event to (λ step. (
        let k = c.calls_queue_requests.ensures.permission plan old w v target address lifetime since t now ret soon.in_range before (stage_at Held at) step in
        (record { sooner = itself now; family = k.1; stage = k.0 }, tt)))
    one (AsksConnect now at soon quiet is_event to) = as_said _ _ is_event to (λ step. (
      record {
        sooner = itself now;
        family = of_called target address Connect ret (family_at Permitted at);
        stage = c.calls_queue_requests.ensures.connection plan old w v target address lifetime since t now ret soon.in_range quiet (family_at Permitted at) (stage_at Permitted at) step;
      },
      tt,
    ))
    one (Opens connection socket peer now at apart soon is_event to) = as_said _ _ is_event to (λ step. (
      record {
        sooner = itself now;
        family = of_called target address Bind ret (family_at (Waiting connection socket peer) at);
        stage = c.calls_queue_requests.ensures.socket plan old w v target address lifetime since t now ret connection socket peer soon.in_range apart (stage_at (Waiting connection socket peer) at) step;
      },
      tt,
    ))
    one (Draws now quiet soon is_event to) = as_said _ _ is_event to (λ step. (
        let k = c.draws_give_queued_requests.ensures plan old w v target address lifetime since t position.reached now ret soon.in_range quiet is.stage step in
        (record { sooner = sooner_drawn t now ret (sooner now soon); family = of_drawn target address position.reached ret is.family; stage = k.0 }, k.1)))
    one (Grants method request bytes reply now decision seed at same decided is_event replied success to) = as_answered _ _ _ is_event replied to (λ step. (
      record {
        sooner = is.sooner;
        family = family_at (Transmitted method request) at;
        stage = c.requests_are_replied_to.ensures.granted plan old w v target address lifetime since t method request bytes reply now decision seed may same decided success (stage_at (Transmitted method request) at) step;
      },
      tt,
    ))
    one (Challenges method request bytes reply now decision seed reported at same allowed is_event replied shows to) = as_answered _ _ _ is_event replied to (λ step. (
      record {
        sooner = is.sooner;
        family = family_at (Transmitted method request) at;
        stage = c.requests_are_replied_to.ensures.challenged plan old w v target address lifetime since t method request bytes reply now decision seed reported same allowed shows (stage_at (Transmitted method request) at) step;
      },
      tt,
    ))
    one (GivesPart method request reply head rest bytes now at some parts more soon is_event to) = as_said _ _ is_event to (λ step. (
      record {
        sooner = sooner now soon;
        family = family_at (Answered method request reply head) at;
        stage = c.chunks_are_buffered.ensures.answered plan old w v target address lifetime since t method request reply head rest bytes now ret tcp soon.in_range some parts more (stage_at (Answered method request reply head) at) step;
      },
      tt,
    ))
    one (TurnsPart method request reply head rest bytes now at some parts more soon is_event to) = as_said _ _ is_event to (λ step. (
      record {
        sooner = sooner now soon;
        family = family_at (Challenged method request reply head) at;
        stage = c.chunks_are_buffered.ensures.challenged plan old w v target address lifetime since t method request reply head rest bytes now ret tcp soon.in_range some parts more (stage_at (Challenged method request reply head) at) step;
      },
      tt,
    ))
    one (GivesPermission request reply head bytes now at some all soon is_event to) = as_said _ _ is_event to (λ step. (
      record {
        sooner = sooner now soon;
        family = family_at (Answered Permission request reply head) at;
        stage = c.last_chunks_are_taken.ensures.permission plan old w v target address lifetime since t request reply head bytes now ret tcp soon.in_range some all (stage_at (Answered Permission request reply head) at) step;
      },
      tt,
    ))
    one (GivesConnect request reply head bytes now at some all soon is_event to) = as_said _ _ is_event to (λ step. (
      record {
        sooner = sooner now soon;
        family = family_at (Answered Connect request reply head) at;
        stage = c.last_chunks_are_taken.ensures.connection plan old w v target address lifetime since t request reply head bytes now ret tcp soon.in_range some all (stage_at (Answered Connect request reply head) at) step;
      },
      tt,
    ))
    one (GivesBind request reply head more bytes now at some parts soon is_event to) = as_said _ _ is_event to (λ step. (
      record {
        sooner = sooner now soon;
        family = family_at (Answered Bind request reply head) at;
        stage = c.last_chunks_are_taken.ensures.bound plan old w v target address lifetime since t request reply head more bytes now ret tcp soon.in_range some parts (stage_at (Answered Bind request reply head) at) step;
      },
      tt,
    ))
    one (TurnsAll method request reply head bytes now at some all soon is_event to) = as_said _ _ is_event to (λ step. (
      record {
        sooner = sooner_challenged t method now request reply (sooner now soon);
        family = family_at (Challenged method request reply head) at;
        stage = c.challenges_are_answered_again.ensures plan old w v target address lifetime since t method request reply head bytes now ret tcp soon.in_range (sooner now soon) some all (stage_at (Challenged method request reply head) at) step;
      },
      tt,
    ))
    one (Looks what now look soon is_event to) = as_said _ _ is_event to (λ step. (
      record {
        sooner = sooner now soon;
        family = of_looked target address what position.reached ret is.family;
        stage = c.looks_change_nothing.ensures.looks plan old w v target address lifetime since t position.reached what now ret soon.in_range look is.stage step;
      },
      look_given what now look,
    ))
    one (Receives now at soon is_event to) = as_said _ _ is_event to (λ step. (
      record { sooner = sooner now soon; family = is.family; stage = c.looks_change_nothing.ensures.receives plan old w v target address lifetime since t position.reached now ret may at is.stage step },
      tt,
    ))
    one (Polls now quiet soon is_event to) = as_said _ _ is_event to (λ step. (
        let k = c.polls_request_sockets.ensures plan old w v target address lifetime since t position.reached now ret soon.in_range quiet is.stage step in
        (record { sooner = sooner now soon; family = of_polled target address position.reached ret is.family; stage = k.0 }, k.1)))

pub returns-clause-events : goal.returns-clause-events
returns-clause-events c = λ plan old w v target address lifetime since position next event ret may tcp leads is step. one c plan old w v target address lifetime since position next event ret may tcp is leads step

pub returns-clause-promised : goal.returns-clause-promised
returns-clause-promised c = λ plan old w target address lifetime since position is. promise c plan old w w target address lifetime since position.timing position.reached is.stage
