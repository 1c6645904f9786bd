-- The state of an agent once the borrow that a call returned has ended.
use Rattle.std.specs.Borrow.{Fml, MutBor}
use Rattle.std.specs.Io.BufRead.{Rests}
use Rattle.stun_proto_agent.specs.State.{Agent}
use Rattle.stun_proto_agent.specs.contracts.agent.StunAgent.{the_row}

-- The agent satisfies `After` once the borrow of the bytes that it returned has ended.
abbrev pub AgentRests : MutBor Agent → (Agent → Type 0) → Fml
AgentRests agent After = Rests the_row agent After
