-- The state of a server core after a `&mut` borrow of its authenticator has ended.
use Rattle.std.specs.Borrow.{Lends, Fml, MutBor}
use Rattle.stun_proto_server.specs.Server.{Server}
use Rattle.stun_proto_server.specs.contracts.long_term.LongTermServerAuth as auth
use Rattle.turn_desk_core.specs.State.{State}
use Rattle.turn_desk_core.specs.contracts.desk.Desk.{the_row}

-- The authenticator is the last one written through the borrow, and the grants are unchanged.
abbrev pub LendsAuth : MutBor State → MutBor Server → Fml
LendsAuth desk borrow = Lends the_row auth.the_row desk borrow (λ server. record desk.now { auth = server })
