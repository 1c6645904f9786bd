-- The handshake of a client and a server core over an honest network.
use Rattle.std.specs.Prelude.{◌≡◌, ℕ, List, [], ◌∷◌, replicate}
use Rattle.std.specs.declared.net.socket_addr.SocketAddr.{SocketAddr}
use Rattle.turn_client_proto_api.specs.Sent.{Sent}
use Rattle.turn_desk_progress_laws.specs.Promises.{HasCome, control_at, events_in, over}
use Rattle.turn_desk_progress_laws.specs.Scripts.{Barred, Done, IsScript, Progress, Plan, Silent, Start, plan_over}
use Rattle.turn_client_proto.specs.Core.Beginning.{IsNew}
use Rattle.turn_client_proto_api.specs.Config.{Config}
use Rattle.turn_client_proto.specs.Recv.ClientState.{ClientState, Protocol}
use Rattle.turn_desk_event.specs.declared.answer.Answer.{Answer}
use Rattle.turn_desk_core.specs.declared.decision.Decision.TheVariants as by
use Rattle.turn_desk_event.specs.declared.event.Event.{Event}
use Rattle.turn_desk_world.specs.Model.{World}
use Rattle.turn_desk_world.specs.Runs.{IsRun}
use Rattle.turn_desk_progress_laws.specs.Unforged.{IsEachUnforged}
use Rattle.test_honest_network.specs.Exchanges.{IsCarried}
use Rattle.test_honest_network.specs.Settings.{config_of}
use Rattle.test_honest_network.specs.declared.exchange.Carried.{Carried}
use Rattle.test_honest_network.specs.declared.exchange.Carried.TheVariants.{Unsent, Unanswered, Replied}
use Rattle.test_honest_network.specs.declared.simulation.Outcome.{Outcome}
use Rattle.test_honest_network.specs.declared.simulation.Outcome.TheVariants as outcome
use Rattle.test_honest_network.specs.declared.simulation.TheConstants.{LIFETIME, SECOND}
use Rattle.test_honest_network.specs.declared.setting.Setting.{Setting}

-- The client is polled for a message at the start, and again 50 ms later.
abbrev pub plan_of : Setting → Plan
plan_of s = plan_over s.transport s.here s.server (config_of s) (replicate 32 0) 0 SECOND

-- A new client with these settings, before any call.
abbrev pub IsStarted : Setting → Config → ClientState → Type 0
IsStarted s config client = (core : Protocol) × (client ≡ over (control_at s.transport []) core)
    × IsNew s.transport s.here s.server config (replicate 32 0) core

-- The place in the script at which a run with this outcome ends.
abbrev pub HasComeTo : SocketAddr → Outcome → Progress → Type 0
HasComeTo address outcome.Silent progress = progress ≡ Silent
HasComeTo address outcome.CannotAgree progress = progress ≡ Barred
HasComeTo address outcome.Allocated progress = (request : Sent) × (reply : List ℕ) × (progress ≡ Done request address LIFETIME reply)

-- The second exchange, with the decision to allocate the address, had this outcome.
abbrev pub HasGoneOn : ℕ → SocketAddr → World → Outcome → World → Type 0
HasGoneOn now address old came new = IsCarried now (by.Allocate (address ∷ []) LIFETIME) old (carried_for came) new
  where
    carried_for : Outcome → Carried
    carried_for outcome.Silent = Unanswered
    carried_for outcome.CannotAgree = Unsent
    carried_for outcome.Allocated = Replied

-- The run is a script of an honest network. So the conclusion of the theorem on that network holds
-- (`promised`), and nothing was forged in the run (`unforged`).
pub record HasSimulated (plan : Plan) (address : SocketAddr) (old : World) (came : Outcome) (new : World) : Type 0 where
  pub pairs : List (Event × Answer)
  pub progress : Progress
  pub index_is : HasComeTo address came progress
  pub run : IsRun old pairs new
  pub script : IsScript plan Start pairs progress
  pub promised : HasCome plan old (events_in pairs) progress new
  pub unforged : IsEachUnforged plan old pairs new
