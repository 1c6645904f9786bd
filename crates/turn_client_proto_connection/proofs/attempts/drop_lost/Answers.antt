use Rattle.std.proofs.Common.{ap, position, sym, ◌∙◌}
use Rattle.turn_client_proto_connection.specs.Attempts.{is_lost}
use Rattle.turn_client_proto_connection.proofs.Taken.{taken_at}
use Rattle.turn_client_proto_connection.proofs.attempts.drop_lost.Goals as goal

pub returns-in-Some : goal.returns-in-Some
returns-in-Some c =
    c.remove.ensures.others ∙ taken_at (is_lost c.args.ended.now) c.args.waiting.now c.in-Some.index (ap (position (is_lost c.args.ended.now)) (sym c.as_slice.ensures) ∙ sym c.index_lost.ensures ∙ c.in-Some.is)
