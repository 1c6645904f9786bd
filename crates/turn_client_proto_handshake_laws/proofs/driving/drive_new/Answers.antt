use Rattle.std.proofs.Common.{List, subst}
use Rattle.stun_types_base.specs.declared.family.AddressFamily.{AddressFamily}
use Rattle.turn_client_proto_api.specs.declared.options.AllocateOptions.{AllocateOptions}
use Rattle.turn_client_proto_messages.specs.ReportedRequests.{IsLawfulAllocate}
use Rattle.turn_client_proto_handshake_laws.specs.Promises.{HasSent, HasReported}
use Rattle.turn_client_proto_handshake_laws.specs.Sent.{Beginning, HasRoom}
use Rattle.turn_client_proto_handshake_laws.specs.declared.driving.Stage.{Stage}
use Rattle.turn_client_proto_handshake_laws.proofs.driving.drive_new.Goals as goal

-- The client at its start.
abbrev beginning : goal.After-drive-stage → Beginning
beginning c = record {
  transport = c.args.transport;
  here = c.args.local;
  server = c.args.remote;
  config = c.args.config;
  seed = c.args.seed;
  made = c.args.made;
}

has_room : (c : goal.After-drive-stage) → HasRoom c.args.config
has_room c = (c.requires, subst (λ (o : AllocateOptions). IsLawfulAllocate c.args.config.families o) c.allocate_options-options.ensures (subst (λ (l : List AddressFamily). IsLawfulAllocate l c.allocate_options-options.result) c.requested_families-families.ensures c.proof_requests_are_lawful.ensures))

pub returns-clause-closed : goal.returns-clause-closed
returns-clause-closed c = λ now over.
    let d = c.drive-stage.ensures.2 in
    let reported = c.unanswered_clients_end.ensures.reported (beginning c) c.new-client.result c.drive-stage.new.client d.calls c.drive-stage.result (has_room c) c.new-client.ensures d.driven in
    (subst (λ (s : Stage). HasReported (beginning c) d.calls s c.drive-stage.new.client) over reported).0

pub returns-clause-found : goal.returns-clause-found
returns-clause-found c = λ astray.
    let d = c.drive-stage.ensures.2 in
    let sent = c.unanswered_clients_end.ensures.sent (beginning c) c.new-client.result c.drive-stage.new.client d.calls c.drive-stage.result (has_room c) c.new-client.ensures d.driven in
    subst (λ (s : Stage). HasSent (beginning c) d.calls s) astray sent
