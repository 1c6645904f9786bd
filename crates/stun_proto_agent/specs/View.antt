-- The agent that the fields of a `StunAgent` represent.
use Rattle.std.specs.Prelude.{◌≡◌, map}
use Rattle.std.specs.FinMap as finite
use Rattle.stun_proto_agent.specs.State.{Agent, is_tcp}
use Rattle.stun_proto_agent.specs.declared.agent.StunAgent.TheInside.{Inside}

abbrev pub agent_of : Inside → Agent
agent_of a = record {
  transport = a.transport;
  here = a.local;
  remote = a.remote;
  waits = a.waits;
  outstanding = a.outstanding.by_number;
  validated = finite.from_entries (map (λ e. (e.0, e.1)) a.validated.entries);
}

-- The outstanding requests use the agent's transport.
abbrev pub IsAgent : Inside → Type 0
IsAgent a = a.outstanding.is_tcp ≡ is_tcp a.transport
