-- The outcome of a received message.
use Rattle.std.specs.Prelude.{◌≡◌, Bool, true, false}
use Rattle.turn_client_proto_core.specs.declared.protocol.Protocol.{Protocol}

-- The message was for the client, and `after` is the client's state afterwards.
abbrev pub IsHandled : Protocol → Bool → Protocol → Type 0
IsHandled after handled new = (handled ≡ true) × (new ≡ after)

-- The message was not for the client, and `after` is the client's state afterwards.
abbrev pub IsIgnored : Protocol → Bool → Protocol → Type 0
IsIgnored after handled new = (handled ≡ false) × (new ≡ after)
