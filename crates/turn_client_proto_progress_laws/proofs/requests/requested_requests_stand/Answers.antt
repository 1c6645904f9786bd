use Rattle.turn_client_proto_progress_laws.specs.Asking.{AnyCount}
use Rattle.turn_client_proto_progress_laws.proofs.Asking.Between.{bind_so, generated_so, permission_so, polled_so, reported_so}
use Rattle.turn_client_proto_progress_laws.proofs.requests.requested_requests_stand.Goals as goal

pub returns-clause-transmitted : goal.returns-clause-transmitted
returns-clause-transmitted c = λ b realm address wanted request now at old new sent is transmitted. generated_so b realm address wanted request now now AnyCount old is at sent new transmitted

pub returns-clause-polled : goal.returns-clause-polled
returns-clause-polled c = λ b realm address wanted request now at old new ret is early ample polled. polled_so b realm address wanted request now now AnyCount old is at early early ret new ample polled

pub returns-clause-reported : goal.returns-clause-reported
returns-clause-reported c = λ b realm address wanted request now old new event is reported. reported_so b realm address wanted request now now AnyCount old is event new reported

pub returns-clause-permission : goal.returns-clause-permission
returns-clause-permission c = λ b realm address wanted request now at old new transport ip ret is early ample requested. permission_so b realm address wanted request now now AnyCount old is at early early transport ip ret new ample requested

pub returns-clause-channel : goal.returns-clause-channel
returns-clause-channel c = λ b realm address wanted request now at old new transport peer ret is early ample requested. bind_so b realm address wanted request now now AnyCount old is at early early transport peer ret new ample requested
