-- Accounts of an honest run, and the premise that nothing was forged in it (`NoForgery` of `turn_runs`).
use Rattle.std.specs.Prelude.{◌≡◌, ℕ, List}
use Rattle.turn_desk_core.specs.StunTypesWire.Grammar.{number_at}
use Rattle.turn_desk_core.specs.StunTypesWire.declared.algorithm.IntegrityAlgorithm.{IntegrityAlgorithm}
use Rattle.turn_client_proto_api.specs.Sent.{Sent}
use Rattle.turn_client_proto_handshake_laws.specs.Sent.{Begins}
use Rattle.turn_desk_step_laws.specs.DeskRun.{DeskCall}
use Rattle.turn_client_proto_step_laws.specs.Beginning.{first_client}
use Rattle.turn_client_proto_step_laws.specs.Recv.ClientState.{Protocol}
use Rattle.turn_client_proto_messages.specs.TurnRuns.Members.{IsIn}
use Rattle.turn_desk_world_laws.specs.World.Model.{World}
use Rattle.turn_client_proto_step_laws.specs.RunClient.{Client}
use Rattle.turn_client_proto_messages.specs.TurnRuns.Runs.{Step, AtClient, AtDesk, AtSome, IsKeyOf, IsSignedByDesk, NoForgery}
use Rattle.turn_desk_world_laws.specs.Safety.{IsAccount, words}
use Rattle.turn_desk_world_laws.specs.Reported.{IsReportedBy}
use Rattle.turn_desk_event.specs.declared.answer.Answer.{Answer}
use Rattle.turn_desk_event.specs.declared.event.Event.{Event}
use Rattle.turn_desk_progress_laws.specs.Promises.{IsStrongestOf, key_in_realm}
use Rattle.turn_desk_progress_laws.specs.Scripts.{Plan}

-- The client of a plan at the beginning of a run.
abbrev pub first_of : Plan → Protocol → Client
first_of plan core = first_client plan.client.config.credentials plan.client.seed core

-- Nothing was forged in any account of what happened, whatever count of transaction IDs is taken as the
-- client's own.
abbrev pub IsEachUnforged : Plan → (old : World) → List (Event × Answer) → (new : World) → Type 0
IsEachUnforged plan old pairs new = (core : Protocol) (run : List (Step Client DeskCall)) (count : ℕ)
    → Begins plan.client core → IsReportedBy old pairs run new → NoForgery words (first_of plan core) count run

-- There is an account of what happened, by the contracts of client and server core, and nothing was forged in
-- it.
pub record IsReportedUnforged (plan : Plan) (old : World) (pairs : List (Event × Answer)) (new : World) : Type 0 where
  pub core : Protocol
  pub begins : Begins plan.client core
  pub run : List (Step Client DeskCall)
  pub last : Client
  pub account : IsAccount (first_of plan core) old pairs new run last
  pub unforged : NoForgery words (first_of plan core) (words.client.count last) run

-- The bytes arrive at the client in this step, and the server core signed the text under the key in an
-- earlier one: the text is what integrity covers in its reply to a request that it validated under that key,
-- by that algorithm.
abbrev pub ArrivesSigned : (bytes key : List ℕ) → IntegrityAlgorithm → (text : List ℕ) → Step Client DeskCall
    → List (Step Client DeskCall) → Type 0
ArrivesSigned bytes key a text (AtClient call) earlier =
    IsIn bytes call.came × AtSome (λ one _. IsSignedByDesk words key a text one) earlier
ArrivesSigned bytes key a text (AtDesk d) earlier = ⊥

-- The reply was signed before it arrived:
--
-- - The key of the client's user in the server core's realm counts in the run, for the strongest algorithm
--   that both have.
-- - The reply is valid under it, by that algorithm, and has the transaction ID of the request.
-- - The reply arrives at the client in some step, and the server core signed the text that its integrity
--   attribute covers before.
pub record IsReplySigned (plan : Plan) (old : World) (first : Client) (request : Sent) (reply : List ℕ)
    (run : List (Step Client DeskCall)) : Type 0 where
  pub algorithm : IntegrityAlgorithm
  pub strongest : IsStrongestOf plan.client.config.algorithms old.desk.auth.algorithms algorithm
  pub number : number_at reply ≡ number_at request.bytes
  pub counts : IsKeyOf words first run algorithm (key_in_realm plan old algorithm).bytes
  pub text : List ℕ
  pub valid : words.wire.Validates reply (key_in_realm plan old algorithm).bytes algorithm text
  pub arrives : AtSome (ArrivesSigned reply (key_in_realm plan old algorithm).bytes algorithm text) run
