-- The lemmas that most functions here are proved with, under one name.
use Rattle.stun_proto_agent.specs.Sending.{request_refusal}
use Rattle.turn_client_proto_allocation.proofs.Changes.{change_first_at, change_first_none, find_is}
use Rattle.turn_client_proto_allocation.proofs.Prefixes.{head_stored, whole_stored}
use Rattle.turn_client_proto_allocation.proofs.Heads.{head_of}
use Rattle.turn_client_proto_core.proofs.Deleting.{deleted_each}
use Rattle.turn_client_proto_core.proofs.Numbers.{unused}
use Rattle.turn_client_proto_core.proofs.Visible.{none_visible}
use Rattle.turn_client_proto_core.specs.Asking.{requested}
use Rattle.turn_client_proto_timers.specs.Drawing.{first_allocated, first_bound, first_permitted, first_refreshed, sent_at_once}
use Rattle.turn_client_proto_timers.specs.Polling.{after_asking, after_time}

pub ruleset usual = (head_stored, whole_stored, deleted_each, unused, none_visible)

-- The lemmas about the first allocation that passes a test, by its index.
pub ruleset by_index = (change_first_at, change_first_none, find_is)

-- The lemmas about the prefix of a list that grows.
pub ruleset heads = (head_stored, whole_stored, head_of)

-- The definitions of the effects of calls. Unfolding this one unfolds all that it names.
unfoldable pub opened : Type 0
unfolding requested first_allocated first_bound first_permitted first_refreshed sent_at_once after_asking after_time request_refusal
opened = Unit {0}
