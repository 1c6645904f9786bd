use Rattle.stun_proto_client.proofs.Signing.{signs_read, signs_right}
use Rattle.stun_proto_client.proofs.laws.client_signs.Goals as goal

pub returns-clause-right : goal.returns-clause-right
returns-clause-right c = λ client class key mtype number calls old new k n lawful written signer accepted made.
    signs_right client class key mtype number calls old new k n lawful written signer accepted made

pub returns-clause-read : goal.returns-clause-read
returns-clause-read c = λ client class mtype number calls old new k n lawful written accepted made.
    signs_read client class mtype number calls old new k n lawful written accepted made
