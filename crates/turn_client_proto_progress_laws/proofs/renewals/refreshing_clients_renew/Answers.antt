use Rattle.turn_client_proto_progress_laws.proofs.Renewing.Renewed.{renews}
use Rattle.turn_client_proto_progress_laws.proofs.renewals.refreshing_clients_renew.Goals as goal

pub returns : goal.returns
returns c = λ b choice address t number made many last events old new lifetime bytes now handled w is enough processed.
    renews b choice address t number made many last events old w lifetime bytes is enough now handled new processed
