use Rattle.turn_desk_world_laws.proofs.Beginning.{begins_tcp, begins_udp}
use Rattle.turn_desk_world_laws.proofs.laws.new_clients_begin_new.Goals as goal

pub returns-clause-udp : goal.returns-clause-udp
returns-clause-udp c = λ transport here server config seed k w is new short few at. begins_udp transport here server config seed k w is new short few at

pub returns-clause-tcp : goal.returns-clause-tcp
returns-clause-tcp c = λ transport here server config seed k w is new short few at. begins_tcp transport here server config seed k w is new short few at
