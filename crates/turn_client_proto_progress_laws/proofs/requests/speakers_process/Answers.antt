use Rattle.turn_client_proto_progress_laws.proofs.Asking.Processing.{processed_speaks}
use Rattle.turn_client_proto_progress_laws.proofs.requests.speakers_process.Goals as goal

pub returns : goal.returns
returns c = λ b realm address old new message now handled is decodes processed. processed_speaks b realm address old is message decodes now handled new processed
