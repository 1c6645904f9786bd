use Rattle.std.proofs.Common.{true, false, Option, Some, Ok, ap, position, refl, subst, sym, ◌∙◌}
use Rattle.std.specs.declared.net.socket_addr.SocketAddr.{SocketAddr}
use Rattle.turn_client_proto_connection.specs.Sockets.{awaits_socket, is_any_from}
use Rattle.turn_client_proto_recv.specs.Sockets.{IsSocketAnswered, attempt_at}
use Rattle.turn_client_proto_recv.proofs.RequestedSockets.{binding_there, taken_by}
use Rattle.turn_client_proto_recv.proofs.socket.allocated_tcp_socket.Goals as goal

pub returns-in-Ok-join : goal.returns-in-Ok-join
returns-in-Ok-join c =
    let old = c.args.protocol.now in
    let new = c.join.new.protocol in
    let here = c.in-Some-local.here in
    let at = sym (ap (position (awaits_socket c.args.id c.args.peer)) c.as_slice-allocations.ensures) ∙ sym c.index_of.ensures ∙ c.in-Some.is in
    let takes = sym c.takes_sockets.ensures ∙ c.if-not-takes_sockets.false in
    let unused = sym (ap (is_any_from here) c.as_slice-allocations.ensures) ∙ sym c.is_any_from.ensures ∙ c.if-is_any_from.false in
    let is = c.in-Ok-join.ensures.ok in
    subst (λ (l : Option SocketAddr). IsSocketAnswered old c.args.id c.args.five_tuple c.args.peer l c.args.now (Ok tt) new) (sym c.in-Some-local.is)
    (taken_by old c.args.id c.args.five_tuple c.args.peer (Some here) c.args.now (Some c.in-Some.index) true false at takes unused (Ok tt) new refl
    (binding_there old here c.args.peer c.args.id c.args.now c.in-Some.index is.0 new (attempt_at c.args.id c.args.peer old) at refl is.2 is.1 is.3))
