use Rattle.stun_types_message.proofs.Unknown.{is_unknown_list}
use Rattle.stun_types_message.proofs.check.unknown_types_are_listed.Goals as goal

pub returns : goal.returns
returns c all supported = is_unknown_list all supported
