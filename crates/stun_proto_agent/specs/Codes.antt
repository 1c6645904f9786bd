-- The encoding of an agent's value, by which proofs distinguish values.
use Rattle.std.specs.Prelude.{Bool, true, Option, ⊤, refl}
use Rattle.std.specs.Coded.{Coded, code_by, coded×, coded_ℕ, coded_bool, coded_option}
use Rattle.std.specs.FinMap as map
use Rattle.std.specs.Ordering.{nat_cmp}
use Rattle.std.specs.contracts.net.socket_addr.SocketAddr as addr
use Rattle.std.specs.declared.net.socket_addr.SocketAddr.{SocketAddr}
use Rattle.stun_proto_transaction.specs.Base.SocketAddrs.{socket_addr_cmp}
use Rattle.stun_proto_transaction.specs.Base.contracts.transport.TransportType as transport
use Rattle.stun_proto_transaction.specs.Base.declared.transport.TransportType.{TransportType}
use Rattle.stun_proto_transaction.specs.Agents.{Transaction}
use Rattle.stun_proto_transaction.specs.Schedule.{Waits}
use Rattle.stun_proto_agent.specs.State.{Agent}
use Rattle.stun_proto_transaction.specs.TransactionCodes.{transaction_code, waits_code}

-- The encoding of the outstanding requests.
abbrev pub outstanding_code : Coded (map.FinMap nat_cmp Transaction)
outstanding_code = map.code coded_ℕ transaction_code

-- The encoding of the unit type.
abbrev pub nothing_code : Coded ⊤
nothing_code = code_by Bool coded_bool (λ _. true) (λ _. tt) (λ _. refl)

-- The encoding of the validated addresses.
abbrev pub validated_code : Coded (map.FinMap socket_addr_cmp ⊤)
validated_code = map.code addr.the_row.coded nothing_code

-- The encoding of an agent.
abbrev pub agent_code : Coded Agent
agent_code =
    code_by
    (TransportType × (SocketAddr × (Option SocketAddr
    × (Waits × (map.FinMap nat_cmp Transaction × map.FinMap socket_addr_cmp ⊤)))))
    (coded× transport.the_row.coded (coded× addr.the_row.coded (coded× (coded_option addr.the_row.coded)
    (coded× waits_code (coded× outstanding_code validated_code)))))
    (λ a. (a.transport, (a.here, (a.remote, (a.waits, (a.outstanding, a.validated))))))
    (λ p. record {
      transport = p.0;
      here = p.1.0;
      remote = p.1.1.0;
      waits = p.1.1.1.0;
      outstanding = p.1.1.1.1.0;
      validated = p.1.1.1.1.1;
    })
    (λ _. refl)
