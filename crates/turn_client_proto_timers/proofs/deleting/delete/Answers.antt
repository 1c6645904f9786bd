use Rattle.std.proofs.Common.{sym, ◌∙◌}
use Rattle.turn_client_proto_core.proofs.Deleting.{deleted_ok}
use Rattle.turn_client_proto_timers.proofs.deleting.delete.Goals as goal

pub returns-in-Ok-delete_by : goal.returns-in-Ok-delete_by
returns-in-Ok-delete_by c =
    deleted_ok c.args.protocol.now c.generate_id.new.self c.delete_by.new.protocol c.args.now c.in-Ok.number (sym c.is_authenticated.ensures ∙ c.if-not-is_authenticated.false) c.in-Ok.ensures.number c.generate_id.ensures.after c.in-Ok-delete_by.ensures.ok
