use Rattle.turn_client_proto_step_laws.proofs.Unasked.{processed_at_comes, processed_keeps, none_more}
use Rattle.turn_client_proto_step_laws.proofs.added.unasked_adds_nothing.Goals as goal

pub returns : goal.returns
returns c = record {
  processed = λ old new bytes now handled isnt is. none_more bytes old new isnt ((processed_keeps bytes now old).keeps handled new is);
  processed_at = λ old new here bytes now isnt is. none_more bytes old new isnt (processed_at_comes here bytes now new old is);
}
