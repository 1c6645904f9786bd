-- What leads from one position of an honest network to another.
use Rattle.std.proofs.Common.{◌<◌, ◌≡◌, ℕ, ◌≤◌, ◌^◌, arith, List, [], ◌∷◌, ◌++◌, Option, Some, None, sym, ap, ◌∙◌, subst, inl, inr, append_assoc}
use Rattle.std.specs.Prelude.{option_to_list}
use Rattle.std.proofs.lemmas.List.{append-nil}
use Rattle.std.specs.declared.net.socket_addr.SocketAddr.{SocketAddr}
use Rattle.turn_desk_core.specs.StunTypesWire.Grammar.{refusal}
use Rattle.turn_desk_core.specs.declared.decision.Decision.{Decision}
use Rattle.turn_desk_core.specs.State.{State}
use Rattle.turn_desk_core.specs.Steps.{IsAnswer}
use Rattle.turn_client_proto_api.specs.declared.event.TurnEvent.{TurnEvent}
use Rattle.turn_client_proto_api.specs.Sent.{Sent}
use Rattle.turn_desk_event.specs.declared.answer.Answer.{Answer}
use Rattle.turn_client_proto_handshake_laws.specs.Sent.{Beginning, first_number}
use Rattle.turn_desk_world_laws.specs.World.Desks.{words_of}
use Rattle.turn_desk_world_laws.specs.World.Model.{World}
use Rattle.turn_desk_progress_laws.specs.Promises.{IsTimely, event_in}
use Rattle.turn_desk_progress_laws.specs.Scripts.{Plan, Progress}
use Rattle.turn_desk_progress_laws.specs.Standing.{IsAtStage}
use Rattle.turn_desk_progress_laws.proofs.Clients.{Rests}

-- What is transmitted, if something is.
sent_or : Sent → Option Sent → Sent
sent_or other None = other
sent_or other (Some sent) = sent

pub same_sent : (a b : Sent) → Some a ≡ Some b → a ≡ b
unfolding sent_or
same_sent a b is = ap (sent_or a) is

-- The transaction ID of the first request has 96 bits.
pub first_fits : (b : Beginning) → first_number b < 2 ^ 96
first_fits b = omega arith

-- No event is reported.
pub untold : (reported events : List TurnEvent) → reported ≡ [] → events ≡ [] → reported ++ events ≡ []
untold reported events none empty = ap (λ (l : List TurnEvent). l ++ events) none ∙ empty

-- The first call of `poll_transmit` is in range.
pub first_in_range : (plan : Plan) → IsTimely plan → plan.client.made ≤ 2 ^ 62
first_in_range plan timely =
    let apart = timely.apart in
    let range = timely.in_range in
    omega arith

-- If nothing has changed, the simulation stays at its position.
pub rests : (plan : Plan) (old : World) (reported : List TurnEvent) (progress : Progress) (ret : Answer) (w v : World) → Rests ret w v → IsAtStage plan old reported progress w → IsAtStage plan old (reported ++ event_in ret) progress v
rests plan old reported progress ret w v r is =
    subst (λ (l : List TurnEvent). IsAtStage plan old l progress v) (sym (ap (λ (e : List TurnEvent). reported ++ e) r.silent ∙ append-nil reported))
    (subst (λ (x : World). IsAtStage plan old reported progress x) (sym r.same) is)

-- The reported and the queued events together stay the same, whether an event is polled or not.
pub reports_on : (reported : List TurnEvent) (ret : Answer) (event : Option TurnEvent) (left next : List TurnEvent) → event_in ret ≡ option_to_list event → left ≡ option_to_list event ++ next → (reported ++ event_in ret) ++ next ≡ reported ++ left
reports_on reported ret event left next said parts =
    append_assoc reported (event_in ret) next ∙ ap (λ (l : List TurnEvent). reported ++ l) (ap (λ (l : List TurnEvent). l ++ next) said ∙ sym parts)

pub reports_still : (reported : List TurnEvent) (ret : Answer) (left : List TurnEvent) → event_in ret ≡ [] → (reported ++ event_in ret) ++ left ≡ reported ++ left
reports_still reported ret left silent = ap (λ (l : List TurnEvent). l ++ left) (ap (λ (e : List TurnEvent). reported ++ e) silent ∙ append-nil reported)

-- A server core's reply is a message.
pub is_message : (old new : State) (from : SocketAddr) (bytes reply : List ℕ) (now : ℕ) (seed : List ℕ) (decision : Decision) → IsAnswer old from bytes now (words_of seed) decision reply new → refusal reply ≡ None
is_message old new from bytes reply now seed decision (inl is) = is.read.message
is_message old new from bytes reply now seed decision (inr is) = is.read.message

-- A list that makes another no longer is empty.
rest_of : List TurnEvent → List TurnEvent
rest_of [] = []
rest_of (e ∷ events) = events

pub nothing_left : (reported left : List TurnEvent) → reported ++ left ≡ reported → left ≡ []
unfolding rest_of
nothing_left [] left is = is
nothing_left (e ∷ reported) left is = nothing_left reported left (ap rest_of is)
