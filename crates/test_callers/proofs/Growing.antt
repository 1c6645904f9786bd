-- A message that grows by one server at a time.
use Rattle.std.proofs.Common.{◌≡◌, List, ℕ, [], ◌∷◌, ◌++◌, map, sym, ap, ◌∙◌, append_assoc}
use Rattle.std.proofs.lemmas.List.{append-nil, map_push}
use Rattle.std.specs.declared.net.socket_addr.SocketAddr.{SocketAddr}
use Rattle.stun_types.specs.Attributes.{Attr}
use Rattle.stun_types.specs.Drafts.{Draft}
use Rattle.stun_types.specs.Outcomes.{IsAdded}
use Rattle.stun_types.specs.Text.{message_text}
use Rattle.test_callers.specs.Redirected.{GrowsBy, alternate}

-- A message grows by no servers into itself.
pub grows_by_none : (text : List ℕ) → GrowsBy [] text text
grows_by_none text mtype number adds h = h ∙ ap (λ (all : List Attr). message_text mtype number all)
    (sym (append-nil adds))

-- A message that grew by some servers, and then by one more, grew by all of them.
pub grows_by_one : (servers : List SocketAddr) (server : SocketAddr) (first : List ℕ) (old new : Draft)
    → GrowsBy servers first old.bytes
    → IsAdded (alternate server) old new
    → GrowsBy (servers ++ server ∷ []) first new.bytes
grows_by_one servers server first old new grown one mtype number adds h =
    let more : (adds ++ map alternate servers) ++ alternate server ∷ []
    ≡ adds ++ map alternate (servers ++ server ∷ []) =
    append_assoc adds (map alternate servers) (alternate server ∷ []) ∙ ap
    (λ (following : List Attr). adds ++ following) (sym (map_push alternate servers server)) in
    one.text mtype number (adds ++ map alternate servers) (grown mtype number adds h)
    ∙ ap (λ (all : List Attr). message_text mtype number all) more
