use Rattle.turn_client_proto_step_laws.proofs.Order.{raw_first, received_in_order, waiting_in_order}
use Rattle.turn_client_proto_step_laws.proofs.stream_laws.whole_frames_are_taken_in_order.Goals as goal

pub returns-clause-came : goal.returns-clause-came
returns-clause-came g c = λ now stream old new came answer at of some ample is. received_in_order now g.T.AsSlice.items stream old new came answer at of some ample is

pub returns-clause-waited : goal.returns-clause-waited
returns-clause-waited g c = λ now old new given none is. waiting_in_order now old.control old.core given new none is

pub returns-clause-first : goal.returns-clause-first
returns-clause-first g c = λ now old new given k tcp some is. raw_first now old.control old.core given new k tcp some is
