-- The state of a request handle once a `&mut` to its agent has ended.
use Rattle.std.specs.Borrow.{Lends, Fml, MutBor}
use Rattle.std.specs.Prelude.{[]}
use mir.Syntax.{named}
use Rattle.stun_proto_agent.specs.State.{Agent}
use Rattle.stun_proto_agent.specs.contracts.agent.StunAgent as agent
use Rattle.stun_proto_agent.specs.contracts.request.StunRequestMut.{the_row}
use Rattle.stun_proto_agent.specs.declared.request.StunRequestMut.{StunRequestMut}

-- The request handle with another value of its agent.
abbrev pub with_agent : StunRequestMut → Agent → StunRequestMut
with_agent request left = record request { agent = record request.agent { now = left } }

-- When the borrow ends, the agent has the value last written through it. The transaction ID, the address and
-- the algorithm are unchanged.
abbrev pub LendsAgent : MutBor StunRequestMut → MutBor Agent → Fml
LendsAgent request borrow =
    Lends (the_row (record { mir = named 1; lft = [] })) agent.the_row request borrow (with_agent request.now)
