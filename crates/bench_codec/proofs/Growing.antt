-- A message that grows by one LIFETIME at a time.
use Rattle.std.proofs.Common.{◌≡◌, ℕ, List, [], ◌∷◌, ◌++◌, map, sym, ap, ◌∙◌, append_assoc}
use Rattle.std.proofs.lemmas.List.{append-nil, map_push}
use Rattle.stun_types_wire.specs.Attributes.{Attr}
use Rattle.stun_types_wire.specs.Text.{message_text}
use Rattle.stun_types_write.specs.Drafts.{Draft}
use Rattle.stun_types_write.specs.Outcomes.{IsAdded}
use Rattle.bench_codec.specs.Lifetimes.{GrowsBy, lifetime}

-- A message grows by no LIFETIME if it is unchanged.
pub grows_by_none : (text : List ℕ) → GrowsBy [] text text
grows_by_none text mtype number adds h = h ∙ ap (λ (all : List Attr). message_text mtype number all)
    (sym (append-nil adds))

-- A message that grew by some LIFETIMEs grows by one more.
pub grows_by_one : (each : List ℕ) (seconds : ℕ) (first : List ℕ) (old new : Draft)
    → GrowsBy each first old.bytes
    → IsAdded (lifetime seconds) old new
    → GrowsBy (each ++ seconds ∷ []) first new.bytes
grows_by_one each seconds first old new grown one mtype number adds h =
    let more : (adds ++ map lifetime each) ++ lifetime seconds ∷ [] ≡ adds ++ map lifetime (each ++ seconds ∷ []) =
    append_assoc adds (map lifetime each) (lifetime seconds ∷ []) ∙ ap
    (λ (following : List Attr). adds ++ following) (sym (map_push lifetime each seconds)) in
    one.text mtype number (adds ++ map lifetime each) (grown mtype number adds h)
    ∙ ap (λ (all : List Attr). message_text mtype number all) more
