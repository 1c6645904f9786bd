-- Each side of a simulation by itself.
use Rattle.std.proofs.Common.{◌≡◌, not, List, [], ◌∷◌, Option, ap, subst}
use Rattle.std.specs.List.{filter}
use Rattle.turn_client_proto_step_laws.specs.Recv.ClientState.{ClientState}
use Rattle.turn_desk_core.specs.State.{State}
use Rattle.turn_desk_event.specs.declared.answer.Answer.{Answer}
use Rattle.turn_desk_event.specs.declared.event.Event.{Event}
use Rattle.turn_desk_event.specs.declared.event.Event.TheVariants.{Call, Draw, ToClient, ToDesk}
use Rattle.turn_desk_world.specs.Model.{World}
use Rattle.turn_desk_world.specs.Runs.{IsClientRun, IsDeskRun, IsRun, is_at_desk}

-- The simulation with another client, and with another server core.
abbrev with_client : Option ClientState → World → World
with_client client w = record w { client = client }

abbrev with_desk : State → World → World
with_desk desk w = record w { desk = desk }

-- ---- the desk's events

desk_after : (pairs : List (Event × Answer)) (old next : World) (c : Option ClientState) (last : World) → next ≡ with_client next.client old
    → IsRun (with_client c next) pairs last → IsRun (with_client c old) pairs last
desk_after pairs old next c last is run = subst (λ (w : World). IsRun (with_client c w) pairs last) is run

desk_alone : (pairs : List (Event × Answer)) (c : Option ClientState) (old new : World) → IsRun old pairs new → IsRun (with_client c old) (filter is_at_desk pairs) (with_client c new)
unfolding IsRun
desk_alone [] c old new run = ap (with_client c) run
desk_alone ((Call call now, answer) ∷ pairs) c old new run =
    desk_after (filter is_at_desk pairs) old run.0 c (with_client c new) run.1.1 (desk_alone pairs c run.0 new run.2)
desk_alone ((Draw now, answer) ∷ pairs) c old new run =
    desk_after (filter is_at_desk pairs) old run.0 c (with_client c new) run.1.1 (desk_alone pairs c run.0 new run.2)
desk_alone ((ToClient bytes from to now, answer) ∷ pairs) c old new run =
    desk_after (filter is_at_desk pairs) old run.0 c (with_client c new) run.1.1 (desk_alone pairs c run.0 new run.2)
desk_alone ((ToDesk bytes from now decision seed, answer) ∷ pairs) c old new run =
    (with_client c run.0, (run.1.0, ap (with_client c) run.1.1), desk_alone pairs c run.0 new run.2)

pub desk_run : (pairs : List (Event × Answer)) (old new : World) → IsRun old pairs new → IsDeskRun old pairs new
desk_run pairs old new run = desk_alone pairs old.client old new run

-- ---- the client's events

client_after : (pairs : List (Event × Answer)) (old next : World) (d : State) (last : World) → next ≡ with_desk next.desk old
    → IsRun (with_desk d next) pairs last → IsRun (with_desk d old) pairs last
client_after pairs old next d last is run = subst (λ (w : World). IsRun (with_desk d w) pairs last) is run

client_alone : (pairs : List (Event × Answer)) (d : State) (old new : World) → IsRun old pairs new → IsRun (with_desk d old) (filter (λ pair. not (is_at_desk pair)) pairs) (with_desk d new)
unfolding IsRun
client_alone [] d old new run = ap (with_desk d) run
client_alone ((Call call now, answer) ∷ pairs) d old new run =
    (with_desk d run.0, (run.1.0, ap (with_desk d) run.1.1), client_alone pairs d run.0 new run.2)
client_alone ((Draw now, answer) ∷ pairs) d old new run =
    (with_desk d run.0, (run.1.0, ap (with_desk d) run.1.1), client_alone pairs d run.0 new run.2)
client_alone ((ToClient bytes from to now, answer) ∷ pairs) d old new run =
    (with_desk d run.0, (run.1.0, ap (with_desk d) run.1.1), client_alone pairs d run.0 new run.2)
client_alone ((ToDesk bytes from now decision seed, answer) ∷ pairs) d old new run =
    client_after (filter (λ pair. not (is_at_desk pair)) pairs) old run.0 d (with_desk d new) run.1.1 (client_alone pairs d run.0 new run.2)

pub client_run : (pairs : List (Event × Answer)) (old new : World) → IsRun old pairs new → IsClientRun old pairs new
client_run pairs old new run = client_alone pairs old.desk old new run
