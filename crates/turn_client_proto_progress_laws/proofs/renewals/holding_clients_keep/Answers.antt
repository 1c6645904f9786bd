use Rattle.turn_client_proto_progress_laws.proofs.Renewing.Transmitted.{holding_keeps}
use Rattle.turn_client_proto_progress_laws.proofs.renewals.holding_clients_keep.Goals as goal

pub returns : goal.returns
returns c = λ b choice address lifetime now last queue events p w. holding_keeps b choice address lifetime now last queue events p w
