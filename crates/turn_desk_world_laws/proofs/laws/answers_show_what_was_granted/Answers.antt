use Rattle.std.proofs.Common.{ℕ, true, refl, inl}
use Rattle.std.specs.declared.net.ip_addr.IpAddr.{IpAddr}
use Rattle.std.specs.declared.net.socket_addr.SocketAddr.{SocketAddr}
use Rattle.stun_types_base.specs.declared.transport.TransportType.{TransportType}
use Rattle.turn_desk_step_laws.specs.TurnRuns.Messages.{Allocation, Channel, Connection, Permission}
use Rattle.turn_desk_event.specs.declared.answer.Answer.TheVariants as answer
use Rattle.turn_desk_event.specs.declared.event.ClientCall.TheVariants as call
use Rattle.turn_desk_world_laws.proofs.Answered.{in_bound, in_image, listed_granted}
use Rattle.turn_desk_world_laws.proofs.laws.answers_show_what_was_granted.Goals as goal

pub returns-clause-addresses : goal.returns-clause-addresses
returns-clause-addresses c = λ first last run now list is transport address listed.
    listed_granted call.RelayedAddresses now (answer.Relayed list) first last run (λ stored one other calls are. are) is (Allocation transport address)
    (in_image (λ (p : TransportType × SocketAddr). Allocation p.0 p.1) (transport, address) list.items listed)

pub returns-clause-permissions : goal.returns-clause-permissions
returns-clause-permissions c = λ first last run now transport relayed list is ip listed.
    listed_granted (call.Permissions transport relayed) now (answer.Permissions list) first last run (λ stored one other calls are. are) is (Permission transport ip)
    (in_image (λ (a : IpAddr). Permission transport a) ip list.items listed)

pub returns-clause-had : goal.returns-clause-had
returns-clause-had c = λ first last run now transport ip is.
    listed_granted (call.HavePermission transport ip) now (answer.Have true) first last run (λ stored one other calls are. are) is (Permission transport ip) (inl refl)

pub returns-clause-channels : goal.returns-clause-channels
returns-clause-channels c = λ first last run now list is number peer listed.
    listed_granted call.Channels now (answer.Channels list) first last run (λ stored one other calls are. are) is (Channel number peer)
    (in_image (λ (p : ℕ × SocketAddr). Channel p.0 p.1) (number, peer) list.items listed)

pub returns-clause-connections : goal.returns-clause-connections
returns-clause-connections c = λ first last run now list is here peer number listed.
    listed_granted call.Connections now (answer.Connections list) first last run (λ stored one other calls are. are) is (Connection here peer number) (in_bound here peer number list.items listed)
