-- The response that lists unknown types.
use Rattle.std.specs.Prelude.{◌≡◌, ℕ, false, List, [], ◌∷◌, Some}
use Rattle.stun_types_wire.specs.Text.{message_text}
use Rattle.stun_types_write.specs.Drafts.{Draft}
use Rattle.stun_types_message.specs.Objections.{IsObjected, objection_to, unknown_response_attributes}

-- If there is a response and no type is required, the response lists the unknown types.
pub is_unknown_text : (kinds : List ℕ) (mtype number : ℕ) (old new : Draft)
    → IsObjected (objection_to kinds false) mtype number old (Some new)
    → new.bytes ≡ message_text mtype number (unknown_response_attributes kinds)
is_unknown_text [] mtype number old new h = absurd h
is_unknown_text (kind ∷ kinds) mtype number old new h = h.text
