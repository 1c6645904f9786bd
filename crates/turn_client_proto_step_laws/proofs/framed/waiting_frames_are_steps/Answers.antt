use Rattle.std.proofs.Common.{refl}
use Rattle.turn_client_proto_step_laws.proofs.Frames.{handing_step, processing_step, passing_step}
use Rattle.turn_client_proto_step_laws.proofs.framed.waiting_frames_are_steps.Goals as goal

pub returns : goal.returns
returns c = record {
  processed = λ client frame rest now handled new sound waited are_bytes message is. processing_step client sound frame rest waited now handled new are_bytes message is;
  delivered = λ client frame rest payload sound waited is. handing_step client sound frame rest waited payload is;
  passed = λ client frame rest sound waited. passing_step client sound frame rest waited client.core refl;
}
