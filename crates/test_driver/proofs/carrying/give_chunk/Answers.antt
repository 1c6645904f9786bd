use Rattle.test_driver.proofs.carrying.give_chunk.Goals as goal

pub returns : goal.returns
returns c = record { chunk = c.in_ok-from_slice.field-0; same = c.in_ok-from_slice.ensures.items; ret = c.in_ok-happen.field-0; step = c.in_ok-happen.ensures }
