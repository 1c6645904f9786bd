use Rattle.stun_types_wire.proofs.Fingerprints.{not_refused, right_where_not_refused}
use Rattle.stun_types_wire.proofs.grammar_laws.fingerprint_refusals.Goals as goal

pub returns : goal.returns
returns c bytes entries = (right_where_not_refused bytes entries, not_refused bytes entries)
