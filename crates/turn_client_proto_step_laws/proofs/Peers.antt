-- The peer that a message names first.
use Rattle.std.proofs.Common.{◌≡◌, ℕ, ◌==◌, Bool, true, false, List, [], ◌∷◌, Option, Some, None, if◌then◌else◌, refl, ap, ◌∙◌}
use Rattle.std.proofs.lemmas.Bool.{eqb-true}
use Rattle.std.specs.List.{cons_option, filter, filter_map, find}
use Rattle.std.specs.Option.{option_and_then}
use Rattle.std.specs.declared.net.socket_addr.SocketAddr.{SocketAddr}
use Rattle.turn_client_proto_timers.specs.StunTypesWire.Attributes.{Attr}
use Rattle.turn_client_proto_timers.specs.StunTypesWire.Grammar.{number_at, visible}
use Rattle.turn_client_proto_recv.specs.TurnTypesAttributes.StunTypesAttributes.Addresses.{address_again, address_of, address_read_refusal}
use Rattle.turn_client_proto_recv.specs.TurnTypesAttributes.StunTypesAttributes.Xor.{xored}
use Rattle.turn_client_proto_recv.specs.TurnTypesAttributes.TurnRegistry.{xor_peer_address_kind}
use Rattle.turn_client_proto_timers.specs.Messages.Reported.{peer_in, peer_reported}
use Rattle.turn_client_proto_timers.specs.TurnTypesPeer.TurnShows.{address_in, addresses_visible, unless_refused}

-- The decoded addresses begin with this one.
abbrev BeginWith : SocketAddr → List SocketAddr → Type 0
BeginWith peer all = (others : List SocketAddr) × (all ≡ peer ∷ others)

module _ (number : ℕ) (peer : SocketAddr) where
  -- An attribute is read by its own type, which is that of XOR-PEER-ADDRESS.
  own_read : (a : Attr) → a.kind ≡ xor_peer_address_kind → peer_in number a ≡ Some peer → address_in number a ≡ Some peer
  own_read a is read = ap (λ (k : ℕ). unless_refused (address_read_refusal k a) (address_of (xored number (address_again a.value)))) is ∙ read

  at_head : (a : Attr) (rest : List Attr) → (option_and_then (peer_in number) (find (λ x. x.kind == xor_peer_address_kind) rest) ≡ Some peer → BeginWith peer (filter_map (address_in number) (filter (λ x. x.kind == xor_peer_address_kind) rest)))
      → (own : Bool) → (a.kind == xor_peer_address_kind) ≡ own
      → option_and_then (peer_in number) (if own then Some a else find (λ x. x.kind == xor_peer_address_kind) rest) ≡ Some peer
      → BeginWith peer (filter_map (address_in number) (if own then a ∷ filter (λ x. x.kind == xor_peer_address_kind) rest else filter (λ x. x.kind == xor_peer_address_kind) rest))
  at_head a rest behind true own read =
      let others = filter_map (address_in number) (filter (λ x. x.kind == xor_peer_address_kind) rest) in
      (others, ap (λ o. cons_option o others) (own_read a (eqb-true a.kind xor_peer_address_kind own) read))
  at_head a rest behind false own read = behind read

  in_list : (all : List Attr) → option_and_then (peer_in number) (find (λ x. x.kind == xor_peer_address_kind) all) ≡ Some peer
      → BeginWith peer (filter_map (address_in number) (filter (λ x. x.kind == xor_peer_address_kind) all))
  in_list [] read = absurd (Prim.cc read)
  in_list (a ∷ rest) read = at_head a rest (in_list rest) (a.kind == xor_peer_address_kind) refl read

-- The peer that the client reads is the first of those that the message shows.
pub first_peer : (bytes : List ℕ) (peer : SocketAddr) → peer_reported bytes ≡ Some peer → BeginWith peer (addresses_visible xor_peer_address_kind bytes)
first_peer bytes peer named = in_list (number_at bytes) peer (visible bytes) named
