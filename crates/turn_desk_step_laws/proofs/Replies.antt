-- What a success response shows is what was granted.
use Rattle.std.proofs.Common.{◌≡◌, ℕ, ◌<◌, ◌^◌, ◌/◌, ◌%◌, Bool, eqb, List, [], ◌∷◌, ◌++◌, Some, None, refl, ap, ◌∙◌, arith}
use Rattle.std.proofs.lemmas.Grind.{common_steps}
use Rattle.std.specs.List.{filter, filter_map, find}
use Rattle.std.specs.declared.net.socket_addr.SocketAddr.{SocketAddr}
use Rattle.byteorder.specs.Endian.{big_bytes, big_number}
use Rattle.byteorder.specs.Numbers.{big_number-reads_back}
use Rattle.turn_desk_core.specs.StunTypesWire.declared.algorithm.IntegrityAlgorithm.{IntegrityAlgorithm}
use Rattle.turn_desk_core.specs.StunTypesWire.declared.algorithm.IntegrityAlgorithm.TheVariants.{Sha1, Sha256, Sha512}
use Rattle.turn_desk_core.specs.StunTypesAttributes.Addresses.{address_value}
use Rattle.turn_desk_core.specs.StunTypesWire.Attributes.{Attr}
use Rattle.turn_desk_core.specs.StunTypesWire.Grammar.{number_at, visible}
use Rattle.turn_client_proto_messages.specs.StunTypesIntegrity.Signing.{signature}
use Rattle.turn_desk_core.specs.StunTypesWire.RawBytes.{type_and_len_refusal}
use Rattle.turn_desk_core.specs.StunTypesWire.Registry.{xor_mapped_address_kind}
use Rattle.turn_desk_core.specs.StunTypesAttributes.Xor.{xored}
use Rattle.turn_desk_core.specs.StunTypesWrite.ValueReading.{value_refusal}
use Rattle.turn_desk_core.specs.TurnTypesAttributes.TurnRegistry.{connection_id_kind, lifetime_kind, xor_relayed_address_kind}
use Rattle.turn_desk_core.specs.TurnTypesPeer.TurnShows.{address_in, addresses_visible, each_visible, number_in, number_visible, unless_refused}
use Rattle.turn_desk_core.specs.Granted.{connected_attributes, refreshed_attributes}
use Rattle.turn_desk_core.specs.Replies.{allocated_attributes, relayed_attributes}
use Rattle.turn_desk_step_laws.specs.DeskRun.{AreReported}

abbrev pub is_of : ℕ → Attr → Bool
is_of kind a = eqb a.kind kind

four_accepted : (a b c d : ℕ) (kind : ℕ) → value_refusal kind 4 4 (record { kind = kind; value = a ∷ b ∷ c ∷ d ∷ [] }) ≡ None
unfolding type_and_len_refusal
four_accepted a b c d kind = grind (arith, common_steps)

-- The number in four bytes.
number_again : (kind n : ℕ) → n < 2 ^ 32 → number_in 4 (Some (record { kind = kind; value = big_bytes 4 n })) ≡ Some n
number_again kind n small =
    let read : big_number 4 (big_bytes 4 n) ≡ n = big_number-reads_back 4 n [] small in
    ap (λ refused. unless_refused refused (Some (big_number 4 (big_bytes 4 n)))) (four_accepted (n / 16777216 % 256) (n / 65536 % 256) (n / 256 % 256) (n % 256) kind)
    ∙ ap Some read

pub connected_number : (reply : List ℕ) (connection : ℕ) (seal : Attr) → connection < 2 ^ 32 → visible reply ≡ connected_attributes connection ++ seal ∷ [] → number_visible 4 connection_id_kind reply ≡ Some connection
connected_number reply connection seal small shows =
    ap (λ (l : List Attr). number_in 4 (find (is_of connection_id_kind) l)) shows ∙ number_again connection_id_kind connection small

pub refreshed_lifetime : (reply : List ℕ) (lifetime : ℕ) (seal : Attr) → lifetime < 2 ^ 32 → visible reply ≡ refreshed_attributes lifetime ++ seal ∷ [] → number_visible 4 lifetime_kind reply ≡ Some lifetime
refreshed_lifetime reply lifetime seal small shows =
    ap (λ (l : List Attr). number_in 4 (find (is_of lifetime_kind) l)) shows ∙ number_again lifetime_kind lifetime small

-- ---- an allocation

find_after : (number : ℕ) (relayed : List SocketAddr) (following : List Attr) → find (is_of lifetime_kind) (relayed_attributes number relayed ++ following) ≡ find (is_of lifetime_kind) following
find_after number [] following = refl
find_after number (addr ∷ relayed) following = find_after number relayed following

reported_after : (number : ℕ) (relayed : List SocketAddr) (following : List Attr) → AreReported number relayed → filter (is_of xor_relayed_address_kind) following ≡ []
    → filter_map (address_in number) (filter (is_of xor_relayed_address_kind) (relayed_attributes number relayed ++ following)) ≡ relayed
reported_after number [] following reported none = ap (filter_map (address_in number)) none
reported_after number (addr ∷ relayed) following reported none =
    let rest = reported_after number relayed following reported.1 none in
    rw reported.0 (ap (λ (l : List SocketAddr). addr ∷ l) rest)

-- What follows the relayed addresses: LIFETIME, XOR-MAPPED-ADDRESS and the integrity attribute.
pub no_relayed : (lifetime : ℕ) (mapped : List ℕ) (algorithm : IntegrityAlgorithm) (key text : List ℕ)
    → filter (is_of xor_relayed_address_kind) (record { kind = lifetime_kind; value = big_bytes 4 lifetime } ∷ record { kind = xor_mapped_address_kind; value = mapped } ∷ signature algorithm key text ∷ []) ≡ []
unfolding signature
no_relayed lifetime mapped Sha1 key text = refl
no_relayed lifetime mapped Sha256 key text = refl
no_relayed lifetime mapped Sha512 key text = refl

pub joined : (one two three : List Attr) → (one ++ two) ++ three ≡ one ++ (two ++ three)
joined [] two three = refl
joined (a ∷ one) two three = ap (λ (l : List Attr). a ∷ l) (joined one two three)

abbrev pub after_addresses : ℕ → List ℕ → List Attr
after_addresses lifetime mapped = record { kind = lifetime_kind; value = big_bytes 4 lifetime } ∷ record { kind = xor_mapped_address_kind; value = mapped } ∷ []

pub allocated_addresses : (reply : List ℕ) (number lifetime : ℕ) (relayed : List SocketAddr) (from : SocketAddr) (algorithm : IntegrityAlgorithm) (key text : List ℕ) → number_at reply ≡ number → AreReported number relayed
    → visible reply ≡ allocated_attributes number relayed lifetime from ++ signature algorithm key text ∷ [] → addresses_visible xor_relayed_address_kind reply ≡ relayed
allocated_addresses reply number lifetime relayed from algorithm key text is reported shows =
    let mapped = xored number (address_value from) in
    ap (λ (n : ℕ). filter_map (address_in n) (each_visible xor_relayed_address_kind reply)) is
    ∙ ap (λ (l : List Attr). filter_map (address_in number) (filter (is_of xor_relayed_address_kind) l)) (shows ∙ joined (relayed_attributes number relayed) (after_addresses lifetime mapped) (signature algorithm key text ∷ []))
    ∙ reported_after number relayed (after_addresses lifetime mapped ++ signature algorithm key text ∷ []) reported (no_relayed lifetime mapped algorithm key text)

pub allocated_lifetime : (reply : List ℕ) (number lifetime : ℕ) (relayed : List SocketAddr) (from : SocketAddr) (seal : Attr) → lifetime < 2 ^ 32
    → visible reply ≡ allocated_attributes number relayed lifetime from ++ seal ∷ [] → number_visible 4 lifetime_kind reply ≡ Some lifetime
allocated_lifetime reply number lifetime relayed from seal small shows =
    let mapped = xored number (address_value from) in
    ap (λ (l : List Attr). number_in 4 (find (is_of lifetime_kind) l)) (shows ∙ joined (relayed_attributes number relayed) (after_addresses lifetime mapped) (seal ∷ []))
    ∙ ap (number_in 4) (find_after number relayed (after_addresses lifetime mapped ++ seal ∷ []))
    ∙ number_again lifetime_kind lifetime small
