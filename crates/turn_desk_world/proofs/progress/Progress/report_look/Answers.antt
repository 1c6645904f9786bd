use Rattle.std.proofs.Common.{Some, ap, sym, ◌∙◌}
use Rattle.std.specs.Option.{option_map}
use Rattle.turn_client_proto.specs.Clients.{stored_of}
use Rattle.turn_desk_world.proofs.progress.Progress.report_look.Goals as goal

pub returns-clause-ok : goal.returns-clause-ok
returns-clause-ok c = record {
  client = c.in-Some.client.now;
  there = sym c.client.ensures ∙ ap (λ client. option_map (λ x. stored_of x.now) client) c.in-Some.is;
  seen = c.in_ok-text.ensures;
}
