-- The end of a client.
use Rattle.std.specs.Prelude.{◌≡◌, ℕ, [], ◌++◌, map, take, length, None}
use Rattle.std.specs.FinMap as finite
use Rattle.stun_proto_agent.specs.State.{default_waits}
use Rattle.turn_client_proto_api.specs.declared.event.TurnEvent.TheVariants.{AllocationCreateFailed}
use Rattle.turn_client_proto_core.specs.Numbering.{HasTransmitted}
use Rattle.turn_client_proto_core.specs.declared.protocol.Phase.TheVariants.{Ended}
use Rattle.turn_client_proto_core.specs.declared.protocol.Protocol.{Protocol}

-- The client at its end. An `AllocationCreateFailed` event is queued for each family, in order.
unfoldable pub ended : Protocol → Protocol
ended p = record p { phase = Ended; events = p.events ++ map AllocationCreateFailed p.families }

-- The client after a memory allocation failed: it has no allocations, awaits no response and sends nothing
-- more. The first `events` of its events are left.
unfoldable pub failed : ℕ → Protocol → Protocol
failed events p = record p {
  phase = Ended;
  agent = record {
    transport = p.agent.transport;
    here = p.agent.here;
    remote = None;
    waits = default_waits;
    outstanding = finite.empty;
    validated = finite.empty;
  };
  allocations = [];
  queue = [];
  events = take events p.events;
  closing = [];
}

-- A client in the middle of a call: the events queued before the call are still the first ones, and at most
-- one transaction ID was generated.
pub record IsUnderWay (old new : Protocol) : Type 0 where
  pub server : new.server ≡ old.server
  pub transport : new.agent.transport ≡ old.agent.transport
  pub here : new.agent.here ≡ old.agent.here
  pub events : take (length old.events) new.events ≡ old.events
  pub drew : HasTransmitted old.rng new.rng

-- A client in which a memory allocation failed during a call. It has no allocations, awaits no response and
-- sends nothing more. The events queued before the call are still queued, and at most one transaction ID was
-- generated. No other call removes the agent's remote address, so this distinguishes a failed client from one
-- that has ended.
pub record HasFailed (old new : Protocol) : Type 0 where
  pub server : new.server ≡ old.server
  pub transport : new.agent.transport ≡ old.agent.transport
  pub here : new.agent.here ≡ old.agent.here
  pub no_remote : new.agent.remote ≡ None
  pub phase : new.phase ≡ Ended
  pub none_outstanding : new.agent.outstanding ≡ finite.empty
  pub none_allocated : new.allocations ≡ []
  pub none_queued : new.queue ≡ []
  pub none_closing : new.closing ≡ []
  pub events : new.events ≡ old.events
  pub drew : HasTransmitted old.rng new.rng
