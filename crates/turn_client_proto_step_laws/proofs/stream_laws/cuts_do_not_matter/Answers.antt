use Rattle.turn_client_proto_step_laws.proofs.Cuts.{cut_anywhere}
use Rattle.turn_client_proto_step_laws.proofs.stream_laws.cuts_do_not_matter.Goals as goal

pub returns : goal.returns
returns g c = λ now old one other chunks cuts given again out same first second. cut_anywhere g.T.AsSlice.items now old one other chunks cuts given again out same first second
