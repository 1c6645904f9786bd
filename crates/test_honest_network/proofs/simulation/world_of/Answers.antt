use Rattle.std.proofs.Common.{ap, ◌∙◌}
use Rattle.turn_desk_world.specs.Model.{World}
use Rattle.test_honest_network.proofs.Beginning.{begins}
use Rattle.test_honest_network.proofs.simulation.world_of.Goals as goal

pub returns-in-Ok : goal.returns-in-Ok
returns-in-Ok c =
    let auth = ap (λ (w : World). w.desk.auth) c.new-in-Ok.ensures ∙ (c.new.ensures.auth ∙ c.in-Ok.ensures) in
    record {
      fresh = begins c.args.setting.now c.in_ok-config.config c.new-in-Ok.result _ c.worlds_begin_fresh.ensures c.in_ok-config.ensures auth (ap (λ (w : World). w.client) c.new-in-Ok.ensures) c.in_ok-client.ensures c.requires.name;
      auth = auth;
    }
