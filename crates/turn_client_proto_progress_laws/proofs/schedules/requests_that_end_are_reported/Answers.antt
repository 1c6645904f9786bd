use Rattle.turn_client_proto_progress_laws.proofs.ScheduleEnds.{allocate_ends, binding_ends, channel_ends, connect_ends, permission_ends, refresh_ends}
use Rattle.turn_client_proto_progress_laws.proofs.schedules.requests_that_end_are_reported.Goals as goal

pub returns-clause-allocate : goal.returns-clause-allocate
returns-clause-allocate c = λ r many now old new ret numbers ends phase in_it. allocate_ends r many now old ret new ends numbers in_it phase

pub returns-clause-permission : goal.returns-clause-permission
returns-clause-permission c = λ r many now old new ret a p ip ends at held lasts pending in_it named. permission_ends r many now old ret new ends at a held lasts p ip pending in_it named

pub returns-clause-channel : goal.returns-clause-channel
returns-clause-channel c = λ r many now old new ret a p ends at held lasts pending in_it. channel_ends r many now old ret new ends at a held lasts p pending in_it

pub returns-clause-connect : goal.returns-clause-connect
returns-clause-connect c = λ r many now old new ret a p ends at held lasts pending same. connect_ends r many now old ret new ends at a held lasts p pending same

pub returns-clause-binding : goal.returns-clause-binding
returns-clause-binding c = λ r many now old new ret a p b ends at held lasts pending at_it same. binding_ends r many now old ret new ends at a held lasts p b pending at_it same

pub returns-clause-refresh : goal.returns-clause-refresh
returns-clause-refresh c = λ r many now old new ret a p ends at held lasts pending same. refresh_ends r many now old ret new ends at a held lasts p pending same
