use Rattle.std.proofs.Common.{◌≡◌, refl, inr, subst}
use Rattle.std.specs.Prelude.{MatchOption}
use Rattle.std.specs.FinMap as map
use Rattle.stun_proto_transaction.specs.Agents.{transmitted}
use Rattle.stun_proto_agent.specs.Sending.{stored_under}
use Rattle.stun_proto_agent.specs.State.{Agent, is_tcp}
use Rattle.stun_proto_agent.proofs.Sent.{counted, due_sent}
use Rattle.stun_proto_agent.proofs.agent.StunAgent.poll_transmit.Goals as goal

-- The search for a due transmission left the agent unchanged.
pub returns : goal.returns
returns c =
    let number = c.in_ok-number.number in
    let found = c.in_ok-number.ensures.found in
    let reported = subst (λ (old : Agent). MatchOption (map.get old.outstanding number) (c.transmit.new.self ≡ old) (λ t. c.transmit.new.self ≡ stored_under old number (transmitted (is_tcp old.transport) t))) c.in_ok-number.ensures.state c.transmit.ensures in
    let after = counted c.args.self.now c.transmit.new.self c.args.now number found.0 found.1 reported in (
      (refl, λ _. tt, inr (record { number = number; transaction = found.0; least = found.1; after = after })),
      record { sent = due_sent c.args.self.now c.transmit.new.self c.args.now number found.0 c.transmission.result found.1 after c.transmission.ensures; state = tt },
    )
