use Rattle.std.proofs.Common.{refl, inl, inr}
use Rattle.turn_runs_laws.proofs.Rounds.{unforged, rounds_promised}
use Rattle.turn_runs_laws.proofs.small.handshakes_are_unforged.Goals as goal

pub returns : goal.returns
returns c = record {
  unforged = unforged;
  held = λ a. record {
    allocation = inr (inr (inr (inr (inl refl))));
    permission = inr (inl refl);
    channel = inr (inr (inl refl));
    connection = inl refl;
  };
  safe = λ a n le. (rounds_promised a n).safe (unforged a n le).authentic (unforged a n le).distinct;
  once = λ a n le. (rounds_promised a n).once (unforged a n le).authentic (unforged a n le).distinct;
  visible = λ a n le. (rounds_promised a n).visible (unforged a n le).authentic (unforged a n le).distinct;
}
