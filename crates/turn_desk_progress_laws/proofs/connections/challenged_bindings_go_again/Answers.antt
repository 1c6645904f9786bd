use Rattle.std.proofs.Common.{◌≡◌, ℕ, List, [], ◌∷◌, refl, sym, subst}
use Rattle.std.specs.declared.net.socket_addr.SocketAddr.{SocketAddr}
use Rattle.turn_desk_world_laws.specs.World.Model.{World}
use Rattle.turn_desk_world_laws.specs.World.Runs.{IsRun, IsStep}
use Rattle.turn_desk_event.specs.declared.answer.Answer.{Answer}
use Rattle.turn_desk_event.specs.declared.event.Event.{Event}
use Rattle.turn_desk_progress_laws.specs.Promises.{IsFresh}
use Rattle.turn_desk_progress_laws.specs.Scripts.{Plan}
use Rattle.turn_desk_progress_laws.specs.Joining.{KeepsOwn}
use Rattle.turn_desk_progress_laws.specs.Linked.{IsOverTcp}
use Rattle.turn_desk_progress_laws.specs.Links.{IsLinkScript, IsTimelyLink, Link, Links, Reached}
use Rattle.turn_desk_progress_laws.specs.Rebinding.{At, GiveTurn, Goes, HasRelinked, IsRelinkScript, LooksOn, ReceivesOn, Relinks, Retry, IsAtStageAgain, Turned, TurnsBind}
use Rattle.turn_desk_progress_laws.proofs.connections.challenged_bindings_go_again.Goals as goal

module _ (c : goal.After-bindings_are_turned) (plan : Plan) (old : World) (fresh : IsFresh plan old) (tcp : IsOverTcp plan) (address : SocketAddr) (lifetime : ℕ) (link : Link) (timely : IsTimelyLink plan lifetime link) (own : KeepsOwn link old.desk.auth) where
  -- ---- one event

  module _ (w v : World) (progress next : Retry) (event : Event) (ret : Answer) where
    abbrev From : Retry → Event → Answer → Retry → Type 0
    From from happening r to = IsAtStageAgain plan old address lifetime link from w → IsStep happening w r v → IsAtStageAgain plan old address lifetime link to v

    as_said : (from : Retry) (happening : Event) (r : Answer) (to : Retry) → progress ≡ from → event ≡ happening → ret ≡ r → next ≡ to → From from happening r to → From progress event ret next
    as_said from happening r to one two three four is = λ occurs step.
        subst (λ (n : Retry). IsAtStageAgain plan old address lifetime link n v) (sym four)
        (is (subst (λ (p : Retry). IsAtStageAgain plan old address lifetime link p w) one occurs) (subst (λ (x : Answer). IsStep happening w x v) three (subst (λ (e : Event). IsStep e w ret v) two step)))

    -- A script of one event.
    alone : (from to : Reached) → Links plan lifetime link from event ret to → IsStep event w ret v → IsRun w ((event, ret) ∷ []) v × IsLinkScript plan lifetime link from ((event, ret) ∷ []) to
    unfolding IsRun IsLinkScript
    alone from to links step = ((v, step, refl), (to, links, refl))

    one : Relinks plan lifetime link progress event ret next → From progress event ret next
    one (Goes from to at links leads) = as_said (At from) event ret (At to) at refl refl leads (λ s step. (
        let a = alone from to links step in
        c.links_lead_on.ensures.occurs plan old w v address lifetime link from to ((event, ret) ∷ []) fresh tcp timely s a.0 a.1))
    one (TurnsBind sent now request bytes reply reported decision seed at same is answer shows to) =
        as_said _ _ _ _ at is answer to (λ s step. c.bindings_are_turned.ensures.turned plan old w v address lifetime link request bytes reply reported decision seed sent now fresh own s same shows step)
    one (GiveTurn sent now request reply head rest bytes at some parts early is to) =
        as_said _ _ ret _ at is refl to (λ s step. c.bindings_are_turned.ensures.given plan old w v address lifetime link ret request reply head rest bytes sent now tcp s some parts early step)
    one (LooksOn sent request reply head what now at look is to) = as_said _ _ ret progress at is refl to (λ s step.
        subst (λ (p : Retry). IsAtStageAgain plan old address lifetime link p v) (sym at) (c.bindings_are_turned.ensures.looks plan old w v address lifetime link ret request reply head sent what now s look step))
    one (ReceivesOn sent request reply head now at is to) = as_said _ _ ret progress at is refl to (λ s step.
        subst (λ (p : Retry). IsAtStageAgain plan old address lifetime link p v) (sym at) (c.bindings_are_turned.ensures.receives plan old w v address lifetime link ret request reply head sent now fresh s step))

  -- ---- all of them

  all : (w new : World) (progress last : Retry) (pairs : List (Event × Answer)) → IsAtStageAgain plan old address lifetime link progress w → IsRun w pairs new → IsRelinkScript plan lifetime link progress pairs last → IsAtStageAgain plan old address lifetime link last new
  unfolding IsRun IsRelinkScript
  all w new progress last [] occurs run is = subst (λ (p : Retry). IsAtStageAgain plan old address lifetime link p new) (sym is) (subst (λ (x : World). IsAtStageAgain plan old address lifetime link progress x) (sym run) occurs)
  all w new progress last (pair ∷ pairs) occurs run is = all run.0 new is.0 last pairs (one w run.0 progress is.0 pair.0 pair.1 is.1 occurs run.1) run.2 is.2

  pub promise : (new : World) (progress : Retry) → IsAtStageAgain plan old address lifetime link progress new → HasRelinked plan old address link progress new
  promise new (At progress) s = c.links_lead_on.ensures.promised plan old new address lifetime link progress fresh tcp timely s
  promise new (Turned sent request reply head) s = tt

pub returns : goal.returns
returns c = λ plan old one new first pairs request address lifetime reply link progress fresh tcp own run script timely more is.
    let held = c.handshakes_lead_on.ensures plan old one first request address lifetime reply link fresh tcp run script in
    promise c plan old fresh tcp address lifetime link timely own new progress (all c plan old fresh tcp address lifetime link timely own one new (At _) progress pairs held more is)
