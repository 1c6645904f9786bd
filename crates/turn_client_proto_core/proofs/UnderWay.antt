-- A client in the middle of a call.
use Rattle.std.proofs.Common.{◌≡◌, ℕ, Result, Ok, Err, refl, sym, ap, ◌∙◌, subst, inl, inr}
use Rattle.std.specs.Prelude.{OnErr, take, length}
use Rattle.rand_chacha.specs.ChaCha.{ChaCha}
use Rattle.stun_proto_agent.specs.State.{Agent}
use Rattle.stun_proto_agent.specs.Sending.{IsAfterTransmit}
use Rattle.turn_client_proto_core.specs.Ending.{HasFailed, IsUnderWay, failed}
use Rattle.turn_client_proto_core.specs.Numbering.{HasTransmitted}
use Rattle.turn_client_proto_core.specs.declared.protocol.Protocol.{Protocol}
use Rattle.turn_client_proto_allocation.proofs.Prefixes.{whole_stored}

-- An agent that was asked for a transmission keeps its transport and its address.
same_transport : (old new : Agent) (now : ℕ) → IsAfterTransmit old now new → new.transport ≡ old.transport
same_transport old new now (inl none) = ap (λ (a : Agent). a.transport) none.1
same_transport old new now (inr counted) = ap (λ (a : Agent). a.transport) counted.after

same_here : (old new : Agent) (now : ℕ) → IsAfterTransmit old now new → new.here ≡ old.here
same_here old new now (inl none) = ap (λ (a : Agent). a.here) none.1
same_here old new now (inr counted) = ap (λ (a : Agent). a.here) counted.after

pub after_transmit : (p : Protocol) (agent : Agent) (now : ℕ) → IsAfterTransmit p.agent now agent → IsUnderWay p (record p { agent = agent })
after_transmit p agent now is = record {
  server = refl;
  transport = same_transport p.agent agent now is;
  here = same_here p.agent agent now is;
  events = whole_stored p.events;
  drew = inl refl;
}

-- What holds anyway holds if a call failed.
pub on_err : {A : Type 0} {R E : Type 0} (r : Result R E) → A → OnErr r A
on_err (Ok x) holds = tt
on_err (Err e) holds = holds

-- A client that fails in the middle of a call has failed from the state before the call.
pub failed_from : (old mid new : Protocol) (events : ℕ) → events ≡ length old.events → IsUnderWay old mid → new ≡ failed events mid → HasFailed old new
unfolding failed
failed_from old mid new events count is after = record {
  server = ap (λ (p : Protocol). p.server) after ∙ is.server;
  transport = ap (λ (p : Protocol). p.agent.transport) after ∙ is.transport;
  here = ap (λ (p : Protocol). p.agent.here) after ∙ is.here;
  no_remote = ap (λ (p : Protocol). p.agent.remote) after;
  phase = ap (λ (p : Protocol). p.phase) after;
  none_outstanding = ap (λ (p : Protocol). p.agent.outstanding) after;
  none_allocated = ap (λ (p : Protocol). p.allocations) after;
  none_queued = ap (λ (p : Protocol). p.queue) after;
  none_closing = ap (λ (p : Protocol). p.closing) after;
  events = ap (λ (p : Protocol). p.events) after ∙ ap (λ (n : ℕ). take n mid.events) count ∙ is.events;
  drew = subst (λ (r : ChaCha). HasTransmitted old.rng r) (sym (ap (λ (p : Protocol). p.rng) after)) is.drew;
}
