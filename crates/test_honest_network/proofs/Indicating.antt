-- The indication carries the peer's data.
use Rattle.std.proofs.Common.{◌≡◌, [], ◌∷◌, None, Some, refl, inl}
use Rattle.stun_types_wire.specs.Attributes.{Attr}
use Rattle.turn_types_attributes.specs.StunTypesAttributes.Addresses.{address_read_refusal, address_refusal}
use Rattle.turn_types_attributes.specs.StunTypesAttributes.Xor.{octets_mask}
use Rattle.stun_types_wire.specs.Attributes.{attributes, first_attributes}
use Rattle.stun_types_wire.specs.Grammar.{body_refusal, fingerprint_refusal, header_refusal, length_refusal, number_at, refusal, rest_refusal, visible}
use Rattle.stun_types_wire.specs.Shape.{after_visible, last_rank, shape_prefix, visible_after, visible_rank}
use Rattle.turn_desk_core.specs.TurnTypesPeer.TurnShows.{address_in}
use Rattle.turn_desk_progress_laws.specs.TurnClientProtoProgressLaws.Holding.{IsDataOf}
use Rattle.test_honest_network.specs.Payloads.{indication, payload, peer}

message : refusal indication ≡ None
unfolding refusal header_refusal length_refusal body_refusal fingerprint_refusal rest_refusal after_visible visible_rank last_rank visible_after shape_prefix attributes first_attributes
message = refl

abbrev of : Attr
of = record { kind = 0x0012; value = 0x00 ∷ 0x01 ∷ 0x2a ∷ 0xaa ∷ 0xe7 ∷ 0x21 ∷ 0xc0 ∷ 0x45 ∷ [] }

abbrev given : Attr
given = record { kind = 0x0013; value = payload }

shows : visible indication ≡ of ∷ given ∷ []
unfolding visible visible_after shape_prefix attributes first_attributes
shows = refl

names : address_in (number_at indication) of ≡ Some peer
unfolding number_at address_read_refusal address_refusal octets_mask
names = refl

pub is_data : IsDataOf peer payload indication
is_data = record {
  message = message;
  class = refl;
  method = refl;
  of = of;
  of_kind = refl;
  names = names;
  given = given;
  given_kind = refl;
  given_is = refl;
  shows = inl shows;
}
