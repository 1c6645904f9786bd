use Rattle.turn_desk_world_laws.proofs.Once.{only_client, only_desk}
use Rattle.turn_desk_world_laws.proofs.Safe.{run_is_safe}
use Rattle.turn_desk_world_laws.proofs.Sides.{client_run, desk_run}
use Rattle.turn_desk_world_laws.proofs.running.WorldRuns.run.Goals as goal

pub returns-in-Ok-clause-sides : goal.returns-in-Ok-clause-sides
returns-in-Ok-clause-sides c = record {
  desk = desk_run _ c.args.self.now c.run_each.new.world c.in-Ok.ensures.run;
  client = client_run _ c.args.self.now c.run_each.new.world c.in-Ok.ensures.run;
  only_desk = only_desk _ c.args.self.now c.run_each.new.world c.in-Ok.ensures.run;
  only_client = only_client _ c.args.self.now c.run_each.new.world c.in-Ok.ensures.run;
}

pub returns-in-Ok-clause-safe : goal.returns-in-Ok-clause-safe
returns-in-Ok-clause-safe c = run_is_safe _ c.args.self.now c.run_each.new.world c.in-Ok.ensures.run
