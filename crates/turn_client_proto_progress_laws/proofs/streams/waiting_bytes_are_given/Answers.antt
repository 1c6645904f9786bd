use Rattle.turn_client_proto_progress_laws.specs.Asking.{AnyCount}
use Rattle.std.specs.Prelude.{◌≡◌, true}
use Rattle.turn_client_proto_messages.specs.Allocation.Permits.{permits}
use Rattle.turn_client_proto_progress_laws.specs.Holding.{IsBoundTo}
use Rattle.turn_client_proto_progress_laws.proofs.Asking.Chunks.{either_stored, taken_asks, taken_come, taken_from, taken_holds, taken_speaks}
use Rattle.turn_client_proto_progress_laws.proofs.streams.waiting_bytes_are_given.Goals as goal

pub returns-clause-speaks : goal.returns-clause-speaks
returns-clause-speaks c = λ b realm address old new now given before message is come part requested.
    let t = taken_from old now given new before (either_stored before message part) come requested in
    (taken_speaks b realm address old new is t, taken_come old new before come t)

pub returns-clause-requested : goal.returns-clause-requested
returns-clause-requested c = λ b realm address wanted request now at old new given before message is come part requested.
    let t = taken_from old at given new before (either_stored before message part) come requested in
    (taken_asks b realm address wanted request now now AnyCount old new is t, taken_come old new before come t)

pub returns-clause-permission : goal.returns-clause-permission
returns-clause-permission c = λ b ip old new now given before message is come part requested.
    let t = taken_from old now given new before (either_stored before message part) come requested in
    (taken_holds b (λ a. permits ip a ≡ true) (λ a occurs. occurs) old new is t, taken_come old new before come t)

pub returns-clause-channel : goal.returns-clause-channel
returns-clause-channel c = λ b channel peer old new now given before message is come part requested.
    let t = taken_from old now given new before (either_stored before message part) come requested in
    (taken_holds b (IsBoundTo channel peer) (λ a bound. record { standing = bound.standing; first = bound.first; number = bound.number; to = bound.to }) old new is t, taken_come old new before come t)
