use Rattle.std.proofs.Common.{refl}
use Rattle.turn_desk_laws.proofs.renewals.held_loops_begin.Goals as goal

pub returns : goal.returns
returns c = λ plan old w reported position request address lifetime is enough. record {
  choice = is.choice;
  signs = is.signs;
  first = lifetime;
  lasts = record { long = enough; enough = enough; fits = is.fits; early = is.early };
  unqueued = refl;
  unchallenged = refl;
  queue = is.queue;
  left = is.left;
  events = is.events;
  client = record {
    core = is.client.core;
    there = is.client.there;
    is = c.holding_clients_keep.ensures plan.client is.choice address lifetime position.timing.came position.timing.sent is.queue is.events is.client.core is.client.is;
  };
}
