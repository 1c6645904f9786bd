use Rattle.turn_client_proto_step_laws.proofs.SocketCuts.{cut_anywhere_over}
use Rattle.turn_client_proto_step_laws.proofs.stream_laws.cuts_of_sockets_do_not_matter.Goals as goal

pub returns : goal.returns
returns g c = λ here now old one other chunks cuts given again out same first second. cut_anywhere_over g.T.AsSlice.items here now old one other chunks cuts given again out same first second
