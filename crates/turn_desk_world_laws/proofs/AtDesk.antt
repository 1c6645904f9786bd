-- What the server core of a simulation returns is a step of a run.
use Rattle.std.proofs.Common.{◌≡◌, ℕ, List}
use Rattle.std.specs.Prelude.{MatchOption}
use Rattle.std.specs.declared.net.socket_addr.SocketAddr.{SocketAddr}
use Rattle.turn_desk_core.specs.StunTypesWire.Grammar.{number_at}
use Rattle.turn_desk_step_laws.specs.TurnRuns.Steps.{DeskStep}
use Rattle.turn_desk_step_laws.specs.TurnRuns.StunWire.{stun_wire}
use Rattle.turn_desk_core.specs.declared.decision.Decision.{Decision}
use Rattle.turn_desk_core.specs.declared.decision.Decision.TheVariants as by
use Rattle.turn_desk_event.specs.declared.answer.Answer.{Answer}
use Rattle.turn_desk_event.specs.declared.answer.Answer.TheVariants as answer
use Rattle.turn_desk_step_laws.specs.DeskRun.{CanBeReported, IsHandled, IsReplied, desk_words}
use Rattle.turn_desk_step_laws.proofs.Stepping.{desk_run}
use Rattle.turn_desk_world.specs.Desks.{HasFourBytes, IsDeskAnswered, IsReply}
use Rattle.turn_desk_world.specs.Model.{World}
use Rattle.turn_desk_world_laws.specs.Reported.{AreReportedWhole, desk_call, reply_in}

can_be_reported : (number : ℕ) (decision : Decision) → HasFourBytes decision → AreReportedWhole number decision → CanBeReported number decision
can_be_reported number (by.Refuse code) four whole = tt
can_be_reported number (by.Allocate relayed lifetime) four whole = (whole, four)
can_be_reported number (by.Refresh lifetime) four whole = four
can_be_reported number (by.Connect connection) four whole = four
can_be_reported number by.Grant four whole = tt

module _ (old new : World) (bytes : List ℕ) (from : SocketAddr) (now : ℕ) (decision : Decision) (seed : List ℕ) where
  handled : (ret : Answer) → AreReportedWhole (number_at bytes) decision → IsDeskAnswered ret old.desk bytes from now decision seed new.desk → IsHandled (desk_call old bytes from now decision seed ret new)
  handled ret whole is = record {
    are_bytes = is.are_bytes;
    reported = can_be_reported (number_at bytes) decision is.four_bytes whole;
    outcome = outcome ret is.reply;
  }
    where
      outcome : (ret : Answer) → IsReply ret old.desk bytes from now decision seed new.desk → MatchOption (reply_in ret) (new.desk ≡ old.desk) (IsReplied (desk_call old bytes from now decision seed ret new))
      outcome (answer.Reply reply) is = record { are_bytes = is.are_bytes; served = is.served; answer = is.answer }
      outcome answer.Nothing is = is.1
      outcome _ is = absurd is

  pub desk_step : (ret : Answer) → AreReportedWhole (number_at bytes) decision → IsDeskAnswered ret old.desk bytes from now decision seed new.desk → DeskStep stun_wire desk_words (desk_call old bytes from now decision seed ret new)
  desk_step ret whole is = desk_run (desk_call old bytes from now decision seed ret new) (handled ret whole is)
