use Rattle.std.proofs.Common.{arith}
use Rattle.stun_types_add.proofs.Added.{is_added, pushed_long}
use Rattle.stun_types_add.proofs.ext.AnyMessageWriteExt.add_attribute.Goals as goal

pub set_length-requires : goal.set_length-requires
set_length-requires g c = pushed_long _ _ _ c.requires.started c.in_ok-push_attribute_unchecked.ensures.ok

pub returns-clause-ok : goal.returns-clause-ok
returns-clause-ok g c =
    is_added _ _ _ _ c.in_ok-end.end c.requires.started c.in_ok-push_attribute_unchecked.ensures.ok (omega (arith, c.in_ok-end.ensures.grown, c.padded_len.ensures.0)) c.in_ok-end.ensures.short c.set_length.ensures
