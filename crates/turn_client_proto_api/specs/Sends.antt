-- What is sent to a server for a peer.
use Rattle.std.specs.Prelude.{ℕ, List}
use Rattle.turn_types_frame.specs.Channeled.{channeled_text}
use Rattle.turn_types_frame.specs.Indications.{indication_text}
use Rattle.turn_client_proto_api.specs.declared.send.DelayedMessageOrChannelSend.{DelayedMessageOrChannelSend}
use Rattle.turn_client_proto_api.specs.declared.send.DelayedMessageOrChannelSend.TheVariants.{Channel, Message, Data, OwnedData}

-- The bytes that are sent: a channel frame, an indication, or the payload itself.
abbrev pub send_text : {T : Type 0} → (T → List ℕ) → DelayedMessageOrChannelSend T → List ℕ
send_text items (Channel frame) = channeled_text frame
send_text items (Message message) = indication_text message
send_text items (Data bytes) = items bytes
send_text items (OwnedData bytes) = bytes.items
