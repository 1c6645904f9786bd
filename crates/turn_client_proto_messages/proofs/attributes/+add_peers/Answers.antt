use Rattle.std.proofs.Common.{List, [], ◌∷◌, ap, subst}
use Rattle.std.specs.declared.net.ip_addr.IpAddr.{IpAddr}
use Rattle.std.specs.declared.net.socket_addr.SocketAddr.{SocketAddr}
use Rattle.stun_types_write.specs.Lent.{own_draft}
use Rattle.turn_client_proto_messages.specs.Composing.{IsGrown}
use Rattle.turn_client_proto_messages.specs.Requests.{peer_attribute, peer_of, peers_attributes}
use Rattle.turn_client_proto_messages.proofs.Growing.{grown_by}
use Rattle.turn_client_proto_messages.proofs.attributes.+add_peers.Goals as goal

pub returns : goal.returns
returns t c =
    let number = c.args.transaction_id in
    let first = c.in-Some.first.now in
    let rest = c.in-Some.others.now in
    let old = own_draft c.args.draft.now in
    let middle = own_draft c.add_peer.new.draft in
    let one = subst (λ (p : SocketAddr). IsGrown (peer_attribute number p ∷ []) old middle) c.peer_of.ensures c.in_ok-add_peer.ensures in
    grown_by c.add_peers.result (peer_attribute number (peer_of first)) (peers_attributes number rest) (peers_attributes number c.args.ips.now) old middle (own_draft c.add_peers.new.draft)
    (ap (λ (ips : List IpAddr). peers_attributes number ips) c.in-Some.ensures.cases.0) one c.add_peers.ensures
