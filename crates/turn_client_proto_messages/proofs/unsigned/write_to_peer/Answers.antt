use Rattle.std.proofs.Common.{[]}
use Rattle.turn_client_proto_messages.proofs.unsigned.write_to_peer.Goals as goal

pub returns-clause-request : goal.returns-clause-request
returns-clause-request c = c.in_ok-add_peer.ensures.following _ c.args.transaction_id [] c.in_ok-draft.ensures.unsigned
