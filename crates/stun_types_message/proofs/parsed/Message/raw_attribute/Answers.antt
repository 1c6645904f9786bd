use Rattle.std.proofs.Common.{sym}
use Rattle.stun_types_attributes.specs.Wire.Grammar.{visible}
use Rattle.stun_types_message.proofs.Shows.{found_alone, none_alone}
use Rattle.stun_types_message.proofs.parsed.Message.raw_attribute.Goals as goal

pub returns-in-Some : goal.returns-in-Some
returns-in-Some c = sym (found_alone 20 c.args.atype.0 (visible c.args.self.now) (c.in-Some.field-0-0, c.in-Some.attribute) (sym c.in-Some.ensures.found))

pub returns-in-None : goal.returns-in-None
returns-in-None c = sym (none_alone 20 c.args.atype.0 (visible c.args.self.now) (sym c.in-None.ensures.found))
