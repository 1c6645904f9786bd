-- The lemmas that most functions here are proved with, under one name.
use Rattle.turn_client_proto_allocation.proofs.Prefixes.{head_stored, whole_stored}
use Rattle.stun_proto_agent.specs.Sending.{request_refusal}
use Rattle.turn_client_proto_core.specs.Allocating.{allocated}
use Rattle.turn_client_proto_core.specs.Asking.{requested}
use Rattle.turn_client_proto_core.specs.Attempting.{answering}
use Rattle.turn_client_proto_core.specs.Authenticating.{allocates_again, allocates_other}
use Rattle.turn_client_proto_core.specs.Ending.{ended}
use Rattle.turn_client_proto_core.specs.Permitting.{granted, refused, renews}
use Rattle.turn_client_proto_core.specs.Responding.{accepted, answered, challenged}
use Rattle.turn_client_proto_core.specs.Standing.{after_connect, after_refresh, asks_again, deallocated, refreshed}
use Rattle.turn_client_proto_core.proofs.Numbers.{unused}
use Rattle.turn_client_proto_core.proofs.Visible.{none_visible}

pub ruleset usual = (head_stored, whole_stored, unused, none_visible)

-- The definitions of the effects of calls. Unfolding this one unfolds all that it names.
unfoldable pub opened : Type 0
unfolding allocated answering requested allocates_again allocates_other ended granted refused renews accepted answered challenged after_connect after_refresh asks_again deallocated refreshed request_refusal
opened = Unit {0}
