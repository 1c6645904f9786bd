use Rattle.std.proofs.Common.{ap, ◌∙◌}
use Rattle.stun_proto_server.specs.ServerSigning.{size_for}
use Rattle.stun_proto_server.specs.ServerSigning.{addition_for, class_requested}
use Rattle.stun_proto_server.proofs.Signed.{same_size}
use Rattle.stun_proto_server.proofs.long_term.LongTermServerAuth.message_signature_bytes.Goals as goal

pub returns-clause-success : goal.returns-clause-success
returns-clause-success c response some =
    c.bytes_for.ensures ∙ ap (λ class. size_for (addition_for c.args.self.now c.args.to class)) c.class_requested.ensures
    ∙ ap (λ b. size_for (addition_for c.args.self.now c.args.to (class_requested b))) response
    ∙ same_size c.args.self.now c.args.to some
