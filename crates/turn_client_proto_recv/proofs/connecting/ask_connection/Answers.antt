use Rattle.std.proofs.Common.{◌<◌, length, refl, slice_get, subst, sym, ◌∙◌}
use Rattle.turn_client_proto_connection.specs.Asking.{connecting}
use Rattle.turn_client_proto_core.proofs.Indexes.{read_there, undone}
use Rattle.turn_client_proto_recv.proofs.connecting.ask_connection.Goals as goal

pub returns-in-Err-clause-err : goal.returns-in-Err-clause-err
returns-in-Err-clause-err c =
    let drew = c.generate_id.new.self in
    let within = subst (λ p. c.args.index < length p.allocations) (sym c.generate_id.ensures.after) c.requires in
    undone connecting drew c.ask-2.new.self c.forget.new.allocations c.ask.new.allocations c.args.index _ (slice_get drew.allocations c.args.index) refl (read_there drew.allocations c.args.index within)
    c.in_ok-ask.ensures.ok c.in-Err.ensures.err c.forget.ensures ∙ c.generate_id.ensures.after
