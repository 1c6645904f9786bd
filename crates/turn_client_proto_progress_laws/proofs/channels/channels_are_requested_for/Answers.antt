use Rattle.std.proofs.Common.{subst, sym}
use Rattle.std.specs.Prelude.{List, ℕ}
use Rattle.turn_client_proto_progress_laws.specs.Asking.{AChannel, AnyCount, HasRequested}
use Rattle.turn_client_proto_progress_laws.proofs.Asking.Binds.{bind_answered, bind_made, binds, bound, own_request}
use Rattle.turn_client_proto_progress_laws.proofs.channels.channels_are_requested_for.Goals as goal

pub returns-clause-answered : goal.returns-clause-answered
returns-clause-answered c = λ b realm address old new transport peer now ret is ample requested. bind_answered b realm address old is transport peer now ret new requested ample

pub returns-clause-one : goal.returns-clause-one
returns-clause-one c = λ b realm address old new transport peer now is requested.
    (_, bind_made b realm address old is transport peer now new (bound b realm address old is transport peer now new requested))

pub returns-clause-requested : goal.returns-clause-requested
returns-clause-requested c = λ b realm address old new transport peer at now request is held early requested one.
    let m = bound b realm address old is transport peer at new requested in (
      m.channel,
      subst (λ (r : List ℕ). HasRequested b realm address (AChannel m.channel peer) r now new) (sym (own_request b realm address old is transport peer at new m request one))
          (binds b realm address old is transport peer at new m now now AnyCount held early tt),
    )
