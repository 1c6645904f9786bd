use Rattle.std.proofs.Common.{refl, sym, ◌∙◌}
use Rattle.turn_client_proto_step_laws.specs.Payload.declared.payload.Payload.TheVariants.{Data}
use Rattle.turn_client_proto_progress_laws.proofs.Asking.Given.{data_has, data_of_peer, given_by, gives_data, processed_by, no_payload, same_stored}
use Rattle.turn_client_proto_progress_laws.proofs.requests.datagrams_are_taken.Goals as goal

pub returns-clause-processed : goal.returns-clause-processed
returns-clause-processed g c = λ b realm address wanted request old new came now answer is over from message success received.
    processed_by b old is.speaks.settings g.T.AsSlice.items came from now answer new (no_payload old.core (g.T.AsSlice.items came.bytes) message success) over message received

pub returns-clause-given : goal.returns-clause-given
returns-clause-given g c = λ b ip old new came now answer peer payload is over from same of has received.
    let d = gives_data b ip old.core is peer payload (g.T.AsSlice.items came.bytes) same of has in
    let given = given_by b old is.settings g.T.AsSlice.items came from now answer new (Data b.config.transport peer d.start d.end) d.gives over received in
    (_, given.0, record { payload_is = d.part; transport_is = refl; peer_is = refl }, same_stored old new given.1 (given.2 ∙ sym over))

pub returns-clause-visible : goal.returns-clause-visible
returns-clause-visible g c = λ peer payload bytes is. (data_of_peer peer payload bytes is, data_has peer payload bytes is)
