use Rattle.std.proofs.Common.{refl, sym, ◌∙◌}
use Rattle.turn_client_proto.specs.Clients.{stored_of}
use Rattle.turn_desk_world.proofs.Clients.{no_client}
use Rattle.turn_desk_world.proofs.progress.Progress.add_client.Goals as goal

pub returns-clause-ok : goal.returns-clause-ok
returns-clause-ok c = record {
  client = stored_of c.in_ok-client.client;
  first = no_client stored_of c.args.self.now.client (sym c.is_some.ensures ∙ c.if-is_some.false);
  new = c.in_ok-client.ensures;
  after = refl;
}
