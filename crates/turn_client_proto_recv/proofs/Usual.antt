-- The lemmas that most functions here are proved with, under one name.
use Rattle.turn_client_proto_allocation.proofs.Prefixes.{head_stored, whole_stored}
use Rattle.turn_client_proto_core.proofs.Numbers.{unused}
use Rattle.turn_client_proto_core.specs.Asking.{requested}
use Rattle.turn_client_proto_core.specs.Attempting.{answering}
use Rattle.turn_client_proto_recv.specs.Closing.{without}
use Rattle.turn_client_proto_recv.specs.Sockets.{unsocketed}

pub ruleset usual = (head_stored, whole_stored, unused)

-- The definitions of the effects of calls. Unfolding this one unfolds all that it names.
unfoldable pub opened : Type 0
unfolding answering requested unsocketed without
opened = Unit {0}
