use Rattle.std.proofs.Common.{◌+◌, length, refl, sym, ◌∙◌}
use Rattle.turn_client_proto_messages.specs.TurnTypesAttributes.TurnRegistry.{channel_header_size}
use Rattle.turn_client_proto_step_laws.specs.Payload.declared.payload.Payload.TheVariants.{Framed}
use Rattle.turn_client_proto_progress_laws.proofs.Asking.Bound.{frame_given}
use Rattle.turn_client_proto_progress_laws.proofs.Asking.Frames.{frame_part, no_message}
use Rattle.turn_client_proto_progress_laws.proofs.Asking.Given.{given_by, same_stored}
use Rattle.turn_client_proto_progress_laws.proofs.channels.frames_are_taken.Goals as goal

pub returns : goal.returns
returns g c = λ b channel old new came now answer peer payload is over from are frame received.
    let bytes = g.T.AsSlice.items came.bytes in
    let gives = frame_given b channel peer old.core is payload bytes frame (no_message bytes are frame.lawful) in
    let given = given_by b old is.settings g.T.AsSlice.items came from now answer new (Framed channel b.config.transport peer channel_header_size (channel_header_size + length payload)) gives over received in (
      _,
      given.0,
      record {
        payload_is = frame_part old.core b.config.transport peer channel channel_header_size (channel_header_size + length payload) payload bytes frame gives;
        transport_is = refl;
        peer_is = refl;
      },
      same_stored old new given.1 (given.2 ∙ sym over),
    )
