use Rattle.std.proofs.Common.{◌≡◌, ◌≢◌, ◌++◌, [], Option, OnOk, ap, get_or, map, subst, sym, ◌∙◌}
use Rattle.std.specs.Prelude.{option_to_list}
use Rattle.turn_client_proto_allocation.proofs.Changes.{at_index, find_is, found_at}
use Rattle.turn_client_proto_allocation.proofs.Reported.{always_reported}
use Rattle.turn_client_proto_allocation.specs.declared.connection.Waiting.{Waiting}
use Rattle.turn_client_proto_api.specs.declared.event.TurnEvent.TheVariants.{TcpConnectFailed}
use Rattle.turn_client_proto_connection.specs.Attempts.{is_lost}
use Rattle.turn_client_proto_connection.proofs.Taken.{none_after}
use Rattle.turn_client_proto_connection.proofs.attempts.report_lost.Goals as goal

pub returns-in-Some-clause-ok : goal.returns-in-Some-clause-ok
returns-in-Some-clause-ok c =
    let x : Waiting = get_or c.args.waiting.now c.in-Some.index c.index-waiting-index.result in
    let is_there = ap (λ y. get_or c.args.waiting.now c.in-Some.index y) c.index-waiting-index.is in
    let found = found_at (is_lost c.args.ended.now) c.args.waiting.now c.in-Some.index x (sym c.index_lost.ensures ∙ c.in-Some.is) is_there in
    subst (λ (o : Option Waiting). OnOk c.push_back.result (c.push_back.new.self ≡ c.args.events.now ++ map TcpConnectFailed (map (λ (w : Waiting). w.peer) (option_to_list o)))) (sym found) c.push_back.ensures.ok

pub returns-in-Some-clause-reported : goal.returns-in-Some-clause-reported
returns-in-Some-clause-reported c =
    let x : Waiting = get_or c.args.waiting.now c.in-Some.index c.index-waiting-index.result in
    let is_there = ap (λ y. get_or c.args.waiting.now c.in-Some.index y) c.index-waiting-index.is in
    let found = found_at (is_lost c.args.ended.now) c.args.waiting.now c.in-Some.index x (sym c.index_lost.ensures ∙ c.in-Some.is) is_there in
    always_reported c.push_back.result (subst (λ (o : Option Waiting). map (λ (w : Waiting). w.peer) (option_to_list o) ≢ []) (sym found) (λ e. absurd (Prim.cc e)))

pub returns-in-None-clause-ok : goal.returns-in-None-clause-ok
returns-in-None-clause-ok c =
    let none = find_is (is_lost c.args.ended.now) c.args.waiting.now ∙ ap (at_index c.args.waiting.now) (sym c.index_lost.ensures ∙ c.in-None.is) in
    subst (λ (o : Option Waiting). c.args.events.now ≡ c.args.events.now ++ map TcpConnectFailed (map (λ (w : Waiting). w.peer) (option_to_list o))) (sym none) (none_after c.args.events.now)
