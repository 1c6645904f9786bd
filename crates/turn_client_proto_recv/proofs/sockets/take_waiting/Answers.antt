use Rattle.std.proofs.Common.{Some, ap, option_map, subst, sym, ◌∙◌}
use Rattle.turn_client_proto_connection.specs.Streams.{raw_of}
use Rattle.turn_client_proto_recv.specs.SocketChunks.{IsWaitingTaken}
use Rattle.turn_client_proto_recv.proofs.Asking.{none_taken, some_taken}
use Rattle.turn_client_proto_recv.proofs.sockets.take_waiting.Goals as goal

pub returns-in-Some : goal.returns-in-Some
returns-in-Some c =
    subst (λ given. IsWaitingTaken c.args.protocol.now (Some given) c.take_first.new.protocol) (sym c.new.ensures)
    (some_taken c.args.protocol.now c.take_first.new.protocol c.take_first.ensures.after c.in-Some.raw.peer c.in-Some.raw.bytes.items (sym (ap (option_map raw_of) c.in-Some.is) ∙ c.take_first.ensures.given))

pub returns-in-None : goal.returns-in-None
returns-in-None c =
    none_taken c.args.protocol.now c.take_first.new.protocol c.take_first.ensures.after (sym (ap (option_map raw_of) c.in-None.is) ∙ c.take_first.ensures.given)
