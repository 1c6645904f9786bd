-- A client that fails at once.
use Rattle.std.proofs.Common.{◌≡◌, List, [], ◌∷◌, take, length, refl, ap, inl}
use Rattle.turn_client_proto_core.specs.Ending.{HasFailed, failed}
use Rattle.turn_client_proto_core.specs.declared.protocol.Protocol.{Protocol}

take_all : {A : Type 0} (xs : List A) → take (length xs) xs ≡ xs
take_all [] = refl
take_all {A} (x ∷ xs) = ap (λ (l : List A). x ∷ l) (take_all xs)

pub fails_at_once : (old : Protocol) → HasFailed old (failed (length old.events) old)
unfolding failed
fails_at_once old = record {
  server = refl;
  transport = refl;
  here = refl;
  no_remote = refl;
  phase = refl;
  none_outstanding = refl;
  none_allocated = refl;
  none_queued = refl;
  none_closing = refl;
  events = take_all old.events;
  drew = inl refl;
}
