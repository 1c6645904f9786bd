use Rattle.std.proofs.Common.{rules}
use Rattle.stun_proto_transaction.proofs.Edits.{remove-inserted}
use Rattle.stun_proto_transaction.proofs.outstanding.insert_both.Goals as goal

pub returns-then-is_err-clause-err_sends : goal.returns-then-is_err-clause-err_sends
returns-then-is_err-clause-err_sends c = search (rules, remove-inserted)
