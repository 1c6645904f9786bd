-- The outcome of a handshake, by the theorem on an honest network.
use Rattle.std.proofs.Common.{◌≡◌, ℕ, List, refl, sym, subst}
use Rattle.std.specs.Prelude.{IfOk, Result, Ok, Err}
use Rattle.std.specs.declared.net.socket_addr.SocketAddr.{SocketAddr}
use Rattle.turn_desk_world_laws.specs.TurnClientProtoStepLaws.Sound.{IsWhole}
use Rattle.turn_desk_progress_laws.specs.TurnClientProtoHandshakeLaws.Stages.{AsksForOne}
use Rattle.turn_desk_progress_laws.specs.Promises.{HasCome, IsFresh, events_in}
use Rattle.turn_desk_progress_laws.specs.Scripts.{Barred, Came, Done, IsScript, Progress, Plan, Silent, Start}
use Rattle.turn_desk_progress_laws.specs.Standing.{IsAtStage}
use Rattle.turn_desk_event.specs.declared.answer.Answer.{Answer}
use Rattle.turn_desk_core.specs.declared.decision.Decision.{Decision}
use Rattle.turn_desk_event.specs.declared.event.Event.{Event}
use Rattle.turn_desk_world.specs.Model.{World}
use Rattle.turn_desk_world.specs.Runs.{IsRun}
use Rattle.turn_desk_progress_laws.specs.Unforged.{IsEachUnforged}
use Rattle.test_honest_network.specs.Exchanges.{IsSent, IsUnsent}
use Rattle.test_honest_network.specs.Simulations.{HasComeTo, HasGoneOn, HasSimulated}
use Rattle.test_honest_network.specs.declared.exchange.Carried.TheVariants.{Unanswered, Replied}
use Rattle.test_honest_network.specs.declared.simulation.Outcome.{Outcome}
use Rattle.test_honest_network.specs.declared.simulation.Outcome.TheVariants as outcome
use Rattle.test_honest_network.specs.declared.simulation.TheConstants.{LIFETIME}
use Rattle.test_honest_network.proofs.Leading.{Leads, allocated, barred, mute, replied, silent, unanswered}

-- The statements of the theorems on an honest network.
abbrev pub Promises : Type 0
Promises = (plan : Plan) (old new : World) (pairs : List (Event × Answer)) (progress : Progress) → IsFresh plan old → IsRun old pairs new → IsScript plan Start pairs progress → HasCome plan old (events_in pairs) progress new

abbrev pub Standing : Type 0
Standing = (plan : Plan) (old new : World) (pairs : List (Event × Answer)) (progress : Progress) → IsFresh plan old → IsRun old pairs new → IsScript plan Start pairs progress → IsAtStage plan old (events_in pairs) progress new

abbrev pub Unforged : Type 0
Unforged = (plan : Plan) (old new : World) (pairs : List (Event × Answer)) (progress : Progress) → IsFresh plan old → IsScript plan Start pairs progress → IsEachUnforged plan old pairs new

module _ (promises : Promises) (standing : Standing) (unforged : Unforged) (plan : Plan) (old : World) (fresh : IsFresh plan old) (address : SocketAddr) where
  law : (new : World) (pairs : List (Event × Answer)) (progress : Progress) → IsRun old pairs new → IsScript plan Start pairs progress → IsAtStage plan old (events_in pairs) progress new
  law new pairs progress run script = standing plan old new pairs progress fresh run script

  met : (came : Outcome) (new : World) (progress : Progress) → HasComeTo address came progress → Leads plan old Start new progress → HasSimulated plan address old came new
  met came new progress is leads = record {
    pairs = leads.pairs;
    progress = progress;
    index_is = is;
    run = leads.run;
    script = leads.script;
    promised = promises plan old new leads.pairs progress fresh leads.run leads.script;
    unforged = unforged plan old new leads.pairs progress fresh leads.script;
  }

  module _ (made : ℕ) (made_is : plan.client.made ≡ made) where
    pub first_unsent : (new : World) → IsUnsent made old new → HasSimulated plan address old outcome.Silent new
    first_unsent new is = met outcome.Silent new Silent refl (mute plan old fresh law new (subst (λ (m : ℕ). IsUnsent m old new) (sym made_is) is))

    module _ (decision : Decision) where
      pub first_unanswered : (new : World) → IsSent made decision old Unanswered new → HasSimulated plan address old outcome.Silent new
      first_unanswered new is = met outcome.Silent new Silent refl (silent plan old fresh law decision new (subst (λ (m : ℕ). IsSent m decision old Unanswered new) (sym made_is) is))

      module _ (second : ℕ) (second_is : plan.second ≡ second) (asks : AsksForOne plan.client address) (whole : IsWhole address) (middle new : World) (first : IsSent made decision old Replied middle) where
        started : Leads plan old Start middle Came
        started = replied plan old fresh law decision middle (subst (λ (m : ℕ). IsSent m decision old Replied middle) (sym made_is) first)

        so : (came : Outcome) → HasGoneOn plan.second address middle came new → HasSimulated plan address old came new
        so outcome.Silent is = met outcome.Silent new Silent refl (unanswered plan old fresh law middle started address asks whole LIFETIME new is)
        so outcome.CannotAgree is = met outcome.CannotAgree new Barred refl (barred plan old fresh law middle started address asks whole LIFETIME new is)
        so outcome.Allocated is =
            let a = allocated plan old fresh law middle started address asks whole LIFETIME new is in
            met outcome.Allocated new (Done a.0 address LIFETIME a.1) (a.0, a.1, refl) a.2

        pub gone_on : {E : Type 0} (result : Result Outcome E) → IfOk result (λ came. HasGoneOn second address middle came new) → IfOk result (λ came. HasSimulated plan address old came new)
        gone_on (Ok came) is = so came (subst (λ (m : ℕ). HasGoneOn m address middle came new) (sym second_is) is)
        gone_on (Err error) is = tt

-- The simulation is ready for an honest run, and the outcome of the handshake holds in it.
pub known : {E : Type 0} (plan : Plan) (address : SocketAddr) (old new : World) → IsFresh plan old → (result : Result Outcome E) → IfOk result (λ came. HasSimulated plan address old came new)
    → IfOk result (λ came. (x : World) × (y : World) × IsFresh plan x × HasSimulated plan address x came y)
known plan address old new fresh (Ok came) is = (old, new, fresh, is)
known plan address old new fresh (Err error) is = tt
