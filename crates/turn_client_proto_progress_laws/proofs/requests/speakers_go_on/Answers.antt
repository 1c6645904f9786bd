use Rattle.turn_client_proto_progress_laws.proofs.Asking.Speaking.{bind_speaks, transmitted_speaks, permission_speaks, permissions_speak, polled_speaks, reported_speaks}
use Rattle.turn_client_proto_progress_laws.proofs.requests.speakers_go_on.Goals as goal

pub returns-clause-transmitted : goal.returns-clause-transmitted
returns-clause-transmitted c = λ b realm address old new now sent is transmitted. transmitted_speaks b realm address old is now sent new transmitted

pub returns-clause-polled : goal.returns-clause-polled
returns-clause-polled c = λ b realm address old new now ret is ample polled. polled_speaks b realm address old is now ret new ample polled

pub returns-clause-reported : goal.returns-clause-reported
returns-clause-reported c = λ b realm address old new event is reported. reported_speaks b realm address old is event new reported

pub returns-clause-permission : goal.returns-clause-permission
returns-clause-permission c = λ b realm address old new transport ip now ret is ample requested. permission_speaks b realm address old is transport ip now ret new ample requested

pub returns-clause-several : goal.returns-clause-several
returns-clause-several c = λ b realm address old new transport ips now ret is ample requested. permissions_speak b realm address old is transport ips now ret new ample requested

pub returns-clause-channel : goal.returns-clause-channel
returns-clause-channel c = λ b realm address old new transport peer now ret is ample requested. bind_speaks b realm address old is transport peer now ret new ample requested
