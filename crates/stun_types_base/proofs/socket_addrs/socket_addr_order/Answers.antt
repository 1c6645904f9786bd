use Rattle.stun_types_base.specs.SocketAddrs.{socket_addr_cmp_total, socket_addr_cmp-IsAntisymmetric}
use Rattle.stun_types_base.proofs.socket_addrs.socket_addr_order.Goals as goal

pub returns-clause-total : goal.returns-clause-total
returns-clause-total c = socket_addr_cmp_total

pub returns-clause-only_equal_tie : goal.returns-clause-only_equal_tie
returns-clause-only_equal_tie c = socket_addr_cmp-IsAntisymmetric
