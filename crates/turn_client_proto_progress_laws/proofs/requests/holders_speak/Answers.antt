use Rattle.turn_client_proto_progress_laws.proofs.Asking.Own.{holder_speaks}
use Rattle.turn_client_proto_progress_laws.proofs.requests.holders_speak.Goals as goal

pub returns : goal.returns
returns c = λ b choice address lifetime made last queue events p room text chosen is.
    holder_speaks b choice address lifetime made last queue events p (c.signed_allocates_answer.ensures.short b choice room chosen) (c.signed_allocates_answer.ensures.read b choice text chosen) is
