-- Replies with no attribute, and with one.
use Rattle.std.specs.Prelude.{◌≡◌, ℕ, ◌≤◌, [], ◌∷◌, length, None}
use Rattle.std.proofs.Common.{refl, subst, arith}
use Rattle.byteorder.specs.Endian.{big_bytes}
use Rattle.stun_types_wire.specs.Attributes.{attr_size}
use Rattle.stun_types_write.specs.Adding.{add_refusal, attr_of}
use Rattle.stun_types_write.specs.Drafts.{Draft, empty}
use Rattle.stun_types_write.specs.Outcomes.{IsAdded}
use Rattle.stun_types_add.specs.Calls.{IsComposed, IsOrdinary}
use Rattle.stun_types_add.proofs.Taken.{composed_more}
use Rattle.stun_types_wire.specs.Text.{message_text}
use Rattle.turn_types_attributes.specs.TurnRegistry.{connection_id_kind, lifetime_kind}
use Rattle.turn_desk_core.specs.Replies.{IsReply}
use Rattle.turn_desk_core.specs.Granted.{connected_attributes, granted_attributes, refreshed_attributes}
use Rattle.turn_desk_core.proofs.Room.{none-length, room_left}
use Rattle.turn_desk_core.proofs.Sizes.{body-length, lifetime_ordinary, no_body, reply_of, text-length}

-- A message whose only attribute is a four-byte number is short.
number-length : (kind number type value : ℕ) → length (message_text kind number (attr_of type (big_bytes 4 value) ∷ [])) ≤ 4096
number-length kind number type value =
    let text = text-length kind number (attr_of type (big_bytes 4 value) ∷ []) in
    let body = body-length [] (attr_of type (big_bytes 4 value)) in
    let none = no_body in
    omega (arith, text, body, none)

-- A message without attributes has room for a four-byte number.
pub number_room : (kind number type value : ℕ) (reply : Draft) → IsReply kind number granted_attributes reply → add_refusal reply (attr_size (attr_of type (big_bytes 4 value))) ≡ None
number_room kind number type value reply is =
    room_left kind number [] (empty [] None) reply (attr_size (attr_of type (big_bytes 4 value))) refl is.composed (none-length kind number) (omega arith)

-- A message that was started is a reply without attributes.
pub granted_reply : (kind number : ℕ) (old reply : Draft) → old ≡ empty [] None → IsComposed kind number [] old reply → IsReply kind number granted_attributes reply
granted_reply kind number old reply new composed = reply_of kind number [] old reply new composed tt (none-length kind number)

-- Adding a number makes it a reply with the number as its attribute.
number_reply : (kind number type reported value : ℕ) (old reply : Draft) → IsOrdinary (attr_of type (big_bytes 4 value)) → reported ≡ value → IsReply kind number granted_attributes old
    → IsAdded (attr_of type (big_bytes 4 reported)) old reply → add_refusal old (attr_size (attr_of type (big_bytes 4 reported))) ≡ None → IsReply kind number (attr_of type (big_bytes 4 value) ∷ []) reply
number_reply kind number type reported value old reply ordinary same is added accepted =
    let more = composed_more kind number [] (attr_of type (big_bytes 4 reported)) (empty [] None) old reply is.composed added ordinary.ordinary accepted in
    let composed = subst (λ (n : ℕ). IsComposed kind number (attr_of type (big_bytes 4 n) ∷ []) (empty [] None) reply) same more in
    reply_of kind number (attr_of type (big_bytes 4 value) ∷ []) (empty [] None) reply refl composed (ordinary, tt) (number-length kind number type value)

pub refreshed_reply : (kind number reported lifetime : ℕ) (old reply : Draft) → reported ≡ lifetime → IsReply kind number granted_attributes old
    → IsAdded (attr_of lifetime_kind (big_bytes 4 reported)) old reply → add_refusal old (attr_size (attr_of lifetime_kind (big_bytes 4 reported))) ≡ None → IsReply kind number (refreshed_attributes lifetime) reply
refreshed_reply kind number reported lifetime old reply = number_reply kind number lifetime_kind reported lifetime old reply (lifetime_ordinary lifetime)

connection_ordinary : (connection : ℕ) → IsOrdinary (attr_of connection_id_kind (big_bytes 4 connection))
connection_ordinary connection = record { fits = record { kind = omega arith; value = omega arith }; ordinary = refl }

pub connected_reply : (kind number reported connection : ℕ) (old reply : Draft) → reported ≡ connection → IsReply kind number granted_attributes old
    → IsAdded (attr_of connection_id_kind (big_bytes 4 reported)) old reply → add_refusal old (attr_size (attr_of connection_id_kind (big_bytes 4 reported))) ≡ None → IsReply kind number (connected_attributes connection) reply
connected_reply kind number reported connection old reply = number_reply kind number connection_id_kind reported connection old reply (connection_ordinary connection)
