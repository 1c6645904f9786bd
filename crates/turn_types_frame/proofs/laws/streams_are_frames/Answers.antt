use Rattle.turn_types_frame.proofs.Framing.{given_are_frames, one_way, invalid_is_hopeless}
use Rattle.turn_types_frame.proofs.laws.streams_are_frames.Goals as goal

pub returns-clause-given : goal.returns-clause-given
returns-clause-given c = given_are_frames

pub returns-clause-unique : goal.returns-clause-unique
returns-clause-unique c = one_way

pub returns-clause-invalid : goal.returns-clause-invalid
returns-clause-invalid c = invalid_is_hopeless
