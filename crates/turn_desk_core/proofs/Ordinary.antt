-- The state of a writer to which ordinary attributes were added, and then perhaps an integrity attribute.
use Rattle.std.specs.Prelude.{◌≡◌, ℕ, ◌<◌, ◌^◌, List, [], ◌∷◌, ◌++◌, map}
use Rattle.std.proofs.Common.{sym, ◌∙◌, subst, append_assoc}
use Rattle.std.proofs.lemmas.List.{append-nil}
use Rattle.std.specs.List.{AllByRecursion}
use Rattle.stun_types_wire.specs.declared.algorithm.IntegrityAlgorithm.{IntegrityAlgorithm}
use Rattle.stun_types_wire.specs.Attributes.{Attr}
use Rattle.stun_types_write.specs.Drafts.{Draft}
use Rattle.stun_types_wire.specs.Text.{message_text}
use Rattle.stun_types_add.specs.Calls.{Integrity, IsLawful, IsOrdinary, IsWritten, Ordinary, attributes_after}
use Rattle.stun_types_add.specs.Integrity.Integrity.{Validates}
use Rattle.stun_types_add.specs.Integrity.Signing.{text_to_sign}
use Rattle.stun_types_message.proofs.Composed.{calls_validate}

-- The attributes after ordinary calls are those that the calls add.
pub ordinary_after : (mtype number : ℕ) (all before : List Attr) → attributes_after mtype number (map Ordinary all) before ≡ before ++ all
unfolding attributes_after
ordinary_after mtype number [] before = sym (append-nil before)
ordinary_after mtype number (a ∷ all) before = ordinary_after mtype number all (before ++ a ∷ []) ∙ append_assoc before (a ∷ []) all

both_lawful : (all : List Attr) (algorithm : IntegrityAlgorithm) (key : List ℕ) → AllByRecursion IsOrdinary all → AllByRecursion IsLawful (map Ordinary all ++ Integrity algorithm key ∷ [])
both_lawful [] algorithm key lawful = (tt, tt)
both_lawful (a ∷ all) algorithm key lawful = (lawful.0, both_lawful all algorithm key lawful.1)

-- The message validates under the key of its integrity attribute.
pub signed_valid : (mtype number : ℕ) (all : List Attr) (algorithm : IntegrityAlgorithm) (key : List ℕ) (draft : Draft) → mtype < 2 ^ 14 → number < 2 ^ 96 → AllByRecursion IsOrdinary all
    → IsWritten mtype number (map Ordinary all ++ Integrity algorithm key ∷ []) draft → Validates draft.bytes key algorithm (text_to_sign algorithm (message_text mtype number all))
signed_valid mtype number all algorithm key draft k n lawful written =
    subst (λ (l : List Attr). Validates draft.bytes key algorithm (text_to_sign algorithm (message_text mtype number l))) (ordinary_after mtype number all [])
    (calls_validate mtype number (map Ordinary all) [] algorithm key draft k n (both_lawful all algorithm key lawful) written tt)
