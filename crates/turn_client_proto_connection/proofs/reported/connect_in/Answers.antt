use Rattle.std.proofs.Common.{◌≡◌, Some, refl, rules}
use Rattle.std.proofs.lemmas.Fn.{filter_same}
use Rattle.turn_client_proto_connection.specs.Reported.{not_over}
use Rattle.turn_client_proto_connection.proofs.reported.connect_in.Goals as goal

pub returns-clause-ok : goal.returns-clause-ok
returns-clause-ok c =
    let connecting : c.retain.new.self ≡ not_over (Some c.args.transaction_id) c.args.a.now.connecting = filter_same _ _ _ (λ x b f' k. search rules) _ _ c.retain.ensures in
    rw (c.in_ok-push.ensures.ok, connecting) refl
