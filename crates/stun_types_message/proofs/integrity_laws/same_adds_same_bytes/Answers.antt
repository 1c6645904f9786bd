use Rattle.std.proofs.Common.{sym, ◌∙◌}
use Rattle.stun_types_message.proofs.Composed.{written_text}
use Rattle.stun_types_message.proofs.integrity_laws.same_adds_same_bytes.Goals as goal

pub returns : goal.returns
returns c mtype number calls one other v w = written_text mtype number calls one v ∙ sym (written_text mtype number calls other w)
