-- What a request is for is what it shows.
use Rattle.std.proofs.Common.{◌≡◌, ℕ, Bool, eqb, List, [], ◌∷◌, Option, Some, None, refl, sym, ap, ◌∙◌, subst, arith, inl, inr}
use Rattle.std.proofs.lemmas.Bool.{cases_Bool, eqb-true}
use Rattle.std.specs.Prelude.{slice_index}
use Rattle.std.specs.List.{filter, filter_map, find}
use Rattle.std.specs.Option.{option_and_then}
use Rattle.std.specs.declared.net.socket_addr.SocketAddr.{SocketAddr}
use Rattle.byteorder.specs.Endian.{big_number}
use Rattle.turn_desk_core.specs.StunTypesAttributes.Addresses.{address_again, address_of, address_read_refusal}
use Rattle.turn_desk_core.specs.StunTypesWire.Attributes.{Attr}
use Rattle.turn_desk_core.specs.StunTypesWire.Grammar.{number_at, visible}
use Rattle.turn_desk_core.specs.StunTypesWire.declared.error.StunParseError.{StunParseError}
use Rattle.turn_desk_core.specs.StunTypesWrite.ValueReading.{value_refusal}
use Rattle.turn_desk_core.specs.StunTypesAttributes.Xor.{xored}
use Rattle.turn_desk_core.specs.TurnTypesAttributes.TurnRegistry.{channel_number_kind, connection_id_kind, requested_transport_kind, xor_peer_address_kind}
use Rattle.turn_desk_core.specs.TurnTypesPeer.TurnShows.{address_in, addresses_visible, each_visible, first_visible, number_in, number_visible, unless_refused}
use Rattle.turn_desk_core.specs.RequestedFor.{channel_requested, channel_in, connection_requested, connection_in, peer_requested, peer_in, peers_reported, transport_requested, transport_in}
use Rattle.turn_runs_laws.specs.TurnRuns.StunWire.{protocol_transport}

abbrev is_of : ℕ → Attr → Bool
is_of kind a = eqb a.kind kind

-- What is found passes the test, and is the first that does.
pub record IsFound (kind : ℕ) (all : List Attr) (a : Attr) : Type 0 where
  pub passes : a.kind ≡ kind
  pub others : List Attr
  pub first : filter (is_of kind) all ≡ a ∷ others

same_some : {a b : Attr} → Some a ≡ Some b → a ≡ b
same_some p = Prim.cc p

pub found : (kind : ℕ) (all : List Attr) (a : Attr) → find (is_of kind) all ≡ Some a → IsFound kind all a
found kind [] a h = absurd (Prim.cc h)
found kind (b ∷ all) a h = elim (cases_Bool (is_of kind b)) [
  | inl is ↦
      let here : find (is_of kind) (b ∷ all) ≡ Some b = rw is refl in
      let same : b ≡ a = same_some (sym here ∙ h) in
      record {
        passes = ap (λ (x : Attr). x.kind) (sym same) ∙ eqb-true b.kind kind is;
        others = filter (is_of kind) all;
        first = (rw is refl) ∙ ap (λ (x : Attr). x ∷ filter (is_of kind) all) same;
      }
  | inr differs ↦
      let later : find (is_of kind) (b ∷ all) ≡ find (is_of kind) all = rw differs refl in
      let rest = found kind all a (sym later ∙ h) in
      record { passes = rest.passes; others = rest.others; first = (rw differs refl) ∙ rest.first }
]

-- ---- transaction IDs

-- The number in an attribute of its own type.
number_of_kind : (count kind : ℕ) (a : Attr) → a.kind ≡ kind → unless_refused (value_refusal kind 4 4 a) (Some (big_number count a.value)) ≡ number_in count (Some a)
number_of_kind count kind a is = ap (λ (k : ℕ). unless_refused (value_refusal k 4 4 a) (Some (big_number count a.value))) (sym is)

channel_by : (all : List Attr) (one : Option Attr) → find (is_of channel_number_kind) all ≡ one → option_and_then channel_in one ≡ number_in 2 one
channel_by all None is = refl
channel_by all (Some a) is = number_of_kind 2 channel_number_kind a (found channel_number_kind all a is).passes

pub channel_same : (bytes : List ℕ) → channel_requested bytes ≡ number_visible 2 channel_number_kind bytes
channel_same bytes = channel_by (visible bytes) (first_visible channel_number_kind bytes) refl

connection_by : (all : List Attr) (one : Option Attr) → find (is_of connection_id_kind) all ≡ one → option_and_then connection_in one ≡ number_in 4 one
connection_by all None is = refl
connection_by all (Some a) is = number_of_kind 4 connection_id_kind a (found connection_id_kind all a is).passes

pub connection_same : (bytes : List ℕ) → connection_requested bytes ≡ number_visible 4 connection_id_kind bytes
connection_same bytes = connection_by (visible bytes) (first_visible connection_id_kind bytes) refl

-- ---- the transport

first_byte : (value : List ℕ) → slice_index value 0 ≡ big_number 1 value
first_byte [] = refl
first_byte (b ∷ rest) = omega arith

transport_read : (refused : Option StunParseError) (value : List ℕ) → unless_refused refused (protocol_transport (slice_index value 0)) ≡ option_and_then protocol_transport (unless_refused refused (Some (big_number 1 value)))
transport_read None value = ap protocol_transport (first_byte value)
transport_read (Some e) value = refl

transport_by : (all : List Attr) (one : Option Attr) → find (is_of requested_transport_kind) all ≡ one → option_and_then transport_in one ≡ option_and_then protocol_transport (number_in 1 one)
transport_by all None is = refl
transport_by all (Some a) is =
    transport_read (value_refusal requested_transport_kind 4 4 a) a.value
    ∙ ap (option_and_then protocol_transport) (number_of_kind 1 requested_transport_kind a (found requested_transport_kind all a is).passes)

pub transport_same : (bytes : List ℕ) → transport_requested bytes ≡ option_and_then protocol_transport (number_visible 1 requested_transport_kind bytes)
transport_same bytes = transport_by (visible bytes) (first_visible requested_transport_kind bytes) refl

-- ---- peers

abbrev AreSameOn : (f g : Attr → Option SocketAddr) → List Attr → Type 0
AreSameOn f g [] = Unit {0}
AreSameOn f g (a ∷ all) = (f a ≡ g a) × AreSameOn f g all

map_same : (f g : Attr → Option SocketAddr) (all : List Attr) → AreSameOn f g all → filter_map f all ≡ filter_map g all
map_same f g [] h = refl
map_same f g (a ∷ all) h = let rest = map_same f g all h.1 in rw (h.0, rest) refl

peer_of_kind : (number : ℕ) (a : Attr) → a.kind ≡ xor_peer_address_kind → peer_in number a ≡ address_in number a
peer_of_kind number a is = ap (λ (k : ℕ). unless_refused (address_read_refusal k a) (address_of (xored number (address_again a.value)))) (sym is)

each_same : (number : ℕ) (all : List Attr) → AreSameOn (peer_in number) (address_in number) (filter (is_of xor_peer_address_kind) all)
each_same number [] = tt
each_same number (a ∷ all) =
    let rest = each_same number all in
    elim (cases_Bool (is_of xor_peer_address_kind a)) [
      | inl is ↦
          let here : filter (is_of xor_peer_address_kind) (a ∷ all) ≡ a ∷ filter (is_of xor_peer_address_kind) all = rw is refl in
          subst (λ (l : List Attr). AreSameOn (peer_in number) (address_in number) l) (sym here) (peer_of_kind number a (eqb-true a.kind xor_peer_address_kind is), rest)
      | inr differs ↦
          let here : filter (is_of xor_peer_address_kind) (a ∷ all) ≡ filter (is_of xor_peer_address_kind) all = rw differs refl in
          subst (λ (l : List Attr). AreSameOn (peer_in number) (address_in number) l) (sym here) rest
    ]

pub peers_same : (bytes : List ℕ) → peers_reported bytes ≡ addresses_visible xor_peer_address_kind bytes
peers_same bytes = map_same (peer_in (number_at bytes)) (address_in (number_at bytes)) (each_visible xor_peer_address_kind bytes) (each_same (number_at bytes) (visible bytes))

decoded_first : (number : ℕ) (all : List Attr) (a : Attr) (peer p : SocketAddr) → IsFound xor_peer_address_kind all a → peer_in number a ≡ Some peer → filter_map (address_in number) (filter (is_of xor_peer_address_kind) all) ≡ p ∷ [] → peer ≡ p
decoded_first number all a peer p first reported one =
    let here : address_in number a ≡ Some peer = sym (peer_of_kind number a first.passes) ∙ reported in
    let parts : filter_map (address_in number) (a ∷ first.others) ≡ peer ∷ filter_map (address_in number) first.others = rw here refl in
    let whole : peer ∷ filter_map (address_in number) first.others ≡ p ∷ [] = sym parts ∙ ap (filter_map (address_in number)) (sym first.first) ∙ one in
    Prim.cc whole

peer_by : (number : ℕ) (all : List Attr) (one : Option Attr) (peer p : SocketAddr) → find (is_of xor_peer_address_kind) all ≡ one → option_and_then (peer_in number) one ≡ Some peer → filter_map (address_in number) (filter (is_of xor_peer_address_kind) all) ≡ p ∷ [] → peer ≡ p
peer_by number all None peer p is reported single = absurd (Prim.cc reported)
peer_by number all (Some a) peer p is reported single = decoded_first number all a peer p (found xor_peer_address_kind all a is) reported single

-- The first peer is the one that a request names, if it names exactly one.
pub one_peer : (bytes : List ℕ) (peer p : SocketAddr) → peer_requested bytes ≡ Some peer → addresses_visible xor_peer_address_kind bytes ≡ p ∷ [] → peer ≡ p
one_peer bytes peer p reported single = peer_by (number_at bytes) (visible bytes) (first_visible xor_peer_address_kind bytes) peer p refl reported single
