use Rattle.turn_desk_laws.proofs.RefreshRenewed.{renews}
use Rattle.turn_desk_laws.proofs.challenged_refreshes.challenged_refreshes_renew.Goals as goal

pub returns : goal.returns
returns c = λ b choice address t earlier number made many last queue events old new lifetime bytes now handled w is enough processed.
    renews b choice address t earlier number made many last queue events old w lifetime bytes is enough now handled new processed
