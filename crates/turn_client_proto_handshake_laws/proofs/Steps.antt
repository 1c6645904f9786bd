-- The calls of a driver, one after another.
use Rattle.std.proofs.Common.{◌≡◌, ◌≤◌, ◌+◌, ℕ, arith, List, [], ◌∷◌, ◌++◌, length, Option, refl, sym, ap, ◌∙◌, subst}
use Rattle.turn_client_proto_api.specs.declared.answer.TurnPollRet.{TurnPollRet}
use Rattle.turn_client_proto_core.specs.Ending.{HasFailed}
use Rattle.turn_client_proto_core.specs.declared.protocol.Protocol.{Protocol}
use Rattle.turn_client_proto_timers.specs.Drawing.{HasToSend, IsTransmitted}
use Rattle.turn_client_proto_api.specs.Sent.{Sent}
use Rattle.turn_client_proto_timers.specs.Polling.{IsPolled}
use Rattle.turn_client_proto_handshake_laws.specs.Driving.{Call, Draws, DrawFails, Polls, ComesAt, IsCalled, IsDriven, IsDrivenBy, IsStep, client_end, transmitted_at, polled_at, stage_after}
use Rattle.turn_client_proto_handshake_laws.specs.declared.driving.Stage.{Stage}
use Rattle.turn_client_proto_handshake_laws.specs.declared.driving.Stage.TheVariants.{Drawing, Polling, Failed}

-- `poll_transmit` is a step, also if memory runs out, and so is `poll`.
pub draw_steps : (old new : Protocol) (now : ℕ) (sent : Option Sent) → now ≤ client_end → IsTransmitted old now sent new → IsStep (Drawing now) old (transmitted_at now sent) new
draw_steps old new now sent early is = record { call = Draws now sent; comes = (refl, early); called = is; leads = refl }

pub failure_steps : (old new : Protocol) (now : ℕ) → now ≤ client_end → HasFailed old new → HasToSend old now → IsStep (Drawing now) old (Failed now) new
failure_steps old new now early failed to_send = record { call = DrawFails now; comes = (refl, early); called = (failed, to_send); leads = refl }

pub poll_steps : (old new : Protocol) (now : ℕ) (ret : TurnPollRet) → now ≤ client_end → IsPolled old now ret new → IsStep (Polling now) old (polled_at now ret) new
poll_steps old new now ret early is = record { call = Polls now ret; comes = (refl, early); called = is; leads = refl }

-- One more call at the end.
one_after : (calls : List Call) (call : Call) (first stage : Stage) (old between new : Protocol) → IsDriven first old calls stage between → ComesAt stage call → IsCalled between call new
    → IsDriven first old (calls ++ call ∷ []) (stage_after stage call) new
unfolding IsDriven
one_after [] call first stage old between new driven comes is =
    (new, subst (λ (s : Stage). ComesAt s call) driven.0 comes, subst (λ (p : Protocol). IsCalled p call new) driven.1 is, (ap (λ (s : Stage). stage_after s call) driven.0, refl))
one_after (c ∷ calls) call first stage old between new driven comes is =
    (driven.0, driven.1, driven.2, one_after calls call (stage_after first c) stage driven.0 between new driven.3 comes is)

length_after : (calls : List Call) (call : Call) → length (calls ++ call ∷ []) ≡ length calls + 1
length_after [] call = refl
length_after (c ∷ calls) call = let rest = length_after calls call in omega (arith, rest)

pub one_step : (many : ℕ) (first stage next : Stage) (old between new : Protocol) → IsDrivenBy many first old stage between → IsStep stage between next new → IsDrivenBy (many + 1) first old next new
one_step many first stage next old between new d s = record {
  calls = d.calls ++ s.call ∷ [];
  driven = subst (λ (x : Stage). IsDriven first old (d.calls ++ s.call ∷ []) x new) (sym s.leads) (one_after d.calls s.call first stage old between new d.driven s.comes s.called);
  length_is = length_after d.calls s.call ∙ ap (λ (n : ℕ). n + 1) d.length_is;
}

-- No call yet.
pub no_step : (first : Stage) (old : Protocol) → IsDrivenBy 0 first old first old
unfolding IsDriven
no_step first old = record { calls = []; driven = (refl, refl); length_is = refl }
