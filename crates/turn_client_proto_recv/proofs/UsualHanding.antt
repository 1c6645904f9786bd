-- The lemmas that functions here are proved with, under one name of this crate.
use Rattle.turn_client_proto_payload.specs.Payloads.{payload_of}

-- The definition of what bytes deliver from a peer. Unfolding this one unfolds what it names.
unfoldable pub opened : Type 0
unfolding payload_of
opened = Unit {0}
