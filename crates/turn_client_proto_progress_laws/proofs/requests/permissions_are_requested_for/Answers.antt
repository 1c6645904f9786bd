use Rattle.std.proofs.Common.{subst, sym}
use Rattle.std.specs.Prelude.{List, ℕ}
use Rattle.turn_client_proto_progress_laws.specs.Asking.{APermission, AnyCount, HasRequested}
use Rattle.turn_client_proto_progress_laws.proofs.Asking.Asks.{answered, asks, is_made, made, own_request}
use Rattle.turn_client_proto_progress_laws.proofs.requests.permissions_are_requested_for.Goals as goal

pub returns-clause-answered : goal.returns-clause-answered
returns-clause-answered c = λ b realm address old new transport ip now ret is ample requested. answered b realm address old is transport ip now ret new requested ample

pub returns-clause-one : goal.returns-clause-one
returns-clause-one c = λ b realm address old new transport ip now is requested.
    let m = made b realm address old is transport ip now new requested in
    (_, is_made b realm address old is transport ip now new m.0 m.1)

pub returns-clause-requested : goal.returns-clause-requested
returns-clause-requested c = λ b realm address old new transport ip at now request is held early requested one.
    let m = made b realm address old is transport ip at new requested in
    subst (λ (r : List ℕ). HasRequested b realm address (APermission ip) r now new) (sym (own_request b realm address old is transport ip at new m.0 m.1 request one))
    (asks b realm address old is transport ip at new m.0 m.1 now now AnyCount held early tt)
