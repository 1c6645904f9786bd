use Rattle.std.proofs.Common.{◌≡◌, ℕ, List, Some, None, Ok, ap, ◌∙◌, rules}
use Rattle.std.specs.declared.net.socket_addr.SocketAddr.{SocketAddr}
use Rattle.stun_types_base.specs.declared.transport.TransportType.TheVariants.{Udp}
use Rattle.turn_types_frame.specs.Indications.{Sent}
use Rattle.turn_types_attributes.specs.TurnRegistry.{send_method}
use Rattle.turn_types_frame.specs.declared.build.TransmitBuild.{TransmitBuild}
use Rattle.turn_client_proto_api.specs.declared.send.DelayedMessageOrChannelSend.{DelayedMessageOrChannelSend}
use Rattle.turn_client_proto_api.specs.declared.send.DelayedMessageOrChannelSend.TheVariants.{Message}
use Rattle.turn_client_proto_core.specs.Numbering.{IsNextNumber, after_number}
use Rattle.turn_client_proto_core.specs.declared.protocol.Protocol.{Protocol}
use Rattle.turn_client_proto_payload.specs.Sending.{IsSentOver, Numbered, answered_as, channel_to, standing, written_as}
use Rattle.turn_client_proto_payload.proofs.sending.carried.Goals as goal
use Rattle.turn_client_proto_payload.proofs.sending.carried.Goals.{in_default-via-in-Some+else-le, in_default-via-in_default}

-- Without an active channel to the peer, an indication is sent.
indicated : {T : Type 0} (items : T → List ℕ) (bytes : T) (old new : Protocol) (to : SocketAddr) (now number : ℕ)
    (message : Sent) (built : TransmitBuild (DelayedMessageOrChannelSend T))
    → message ≡ record { method = send_method; peer = to; number = number; payload = items bytes }
    → built ≡ record { bytes = Message message; transport = old.agent.transport; from = old.agent.here; to = old.server }
    → IsNextNumber old number → new ≡ after_number old → standing now (channel_to Udp to old.allocations) ≡ None
    → IsSentOver Udp old to (items bytes) now (answered_as items (Ok (Some built))) new
indicated items bytes old new to now number message built sent is next after none =
    rw none (Numbered number next (ap (λ b. Ok (Some (written_as items b))) (is ∙ ap (λ m. record { bytes = Message m; transport = old.agent.transport; from = old.agent.here; to = old.server }) sent)), after)

pub returns-in-Ok : goal.returns-in-Ok
returns-in-Ok g c =
    let sent = indicated g.T.AsSlice.items c.args.bytes c.args.protocol.now c.generate_id.new.self c.args.to c.args.now c.in-Ok.number c.for_server-message.result c.new-in-Ok.result in
    elim c.in_default.branch [
      | in_default-via-in-Some+else-le w ↦ sent (search rules) (search rules) (search rules) (search rules) (search rules)
      | in_default-via-in_default w ↦ sent (search rules) (search rules) (search rules) (search rules) (search rules)
    ]
