-- Attributes that are added to a reply one after another.
use Rattle.std.specs.Prelude.{◌≡◌, ℕ, ◌≤◌, List, [], ◌∷◌, ◌++◌, length, slice_get, option_to_list, Option, Some, None, MatchOption, ◌<◌}
use Rattle.std.specs.List.{HoldsAt}
use Rattle.std.specs.Option.{option_copied}
use Rattle.std.specs.declared.net.socket_addr.SocketAddr.{SocketAddr}
use Rattle.std.proofs.Common.{refl, ap, ◌∙◌, arith, append_assoc, subst, Bor}
use Rattle.byteorder.specs.Endian.{big_bytes}
use Rattle.stun_types_wire.specs.Attributes.{Attr, attr_size}
use Rattle.stun_types_write.specs.Adding.{add_refusal, attr_of}
use Rattle.stun_types_write.specs.Drafts.{Draft}
use Rattle.stun_types_write.specs.Outcomes.{IsAdded}
use Rattle.stun_types_add.specs.Calls.{IsComposed}
use Rattle.stun_types_add.proofs.Taken.{composed_more}
use Rattle.stun_types_attributes.specs.Addresses.{address_value}
use Rattle.stun_types_attributes.specs.Xor.{xored}
use Rattle.turn_desk_core.specs.Replies.{allocated_attributes, relayed_attributes}
use Rattle.turn_types_attributes.specs.TurnRegistry.{lifetime_kind}
use Rattle.stun_types_wire.specs.Registry.{xor_mapped_address_kind}

-- At most two addresses are the first and the second, if those exist.
pub first_and_second : (number : ℕ) (relayed : List SocketAddr) → length relayed ≤ 2
    → relayed_attributes number (option_to_list (slice_get relayed 0)) ++ relayed_attributes number (option_to_list (slice_get relayed 1)) ≡ relayed_attributes number relayed
first_and_second number [] few = refl
first_and_second number (a ∷ []) few = refl
first_and_second number (a ∷ b ∷ []) few = refl
first_and_second number (a ∷ b ∷ c ∷ rest) few = absurd (omega (arith, few))

-- The relayed addresses, under the transaction ID of the request.
pub relayed-parts : (kind m n : ℕ) (relayed : List SocketAddr) (first second : Option SocketAddr) (old reply : Draft) → m ≡ n → length relayed ≤ 2 → first ≡ slice_get relayed 0 → second ≡ slice_get relayed 1
    → IsComposed kind m (relayed_attributes m (option_to_list first) ++ relayed_attributes m (option_to_list second)) old reply → IsComposed kind n (relayed_attributes n relayed) old reply
relayed-parts kind m n relayed first second old reply number few one two is =
    let same : relayed_attributes m (option_to_list first) ++ relayed_attributes m (option_to_list second) ≡ relayed_attributes n relayed = rw (number, one, two) (first_and_second n relayed few) in
    subst (λ (i : ℕ). IsComposed kind i (relayed_attributes n relayed) old reply) number (subst (λ (all : List Attr). IsComposed kind m all old reply) same is)

-- The relayed addresses, LIFETIME and XOR-MAPPED-ADDRESS make up a success response.
pub allocated_composed : (kind m n : ℕ) (relayed : List SocketAddr) (lifetime : ℕ) (from : SocketAddr) (first second : Option SocketAddr) (old two three four : Draft) (seconds : ℕ) (mapped : List ℕ)
    → m ≡ n → length relayed ≤ 2 → first ≡ slice_get relayed 0 → second ≡ slice_get relayed 1
    → IsComposed kind m (relayed_attributes m (option_to_list first) ++ relayed_attributes m (option_to_list second)) old two
    → IsAdded (attr_of lifetime_kind (big_bytes 4 seconds)) two three → add_refusal two (attr_size (attr_of lifetime_kind (big_bytes 4 seconds))) ≡ None
    → IsAdded (attr_of xor_mapped_address_kind mapped) three four → add_refusal three (attr_size (attr_of xor_mapped_address_kind mapped)) ≡ None
    → seconds ≡ lifetime → mapped ≡ xored m (address_value from)
    → IsComposed kind n (allocated_attributes n relayed lifetime from) old four
allocated_composed kind m n relayed lifetime from first second old two three four seconds mapped number few one other r2 added3 accepted3 added4 accepted4 reported seen =
    let all = relayed_attributes n relayed in
    let a = attr_of lifetime_kind (big_bytes 4 seconds) in
    let b = attr_of xor_mapped_address_kind mapped in
    let r3 = composed_more kind n all a old two three (relayed-parts kind m n relayed first second old two number few one other r2) added3 refl accepted3 in
    let r4 = composed_more kind n (all ++ a ∷ []) b old three four r3 added4 refl accepted4 in
    let value : mapped ≡ xored n (address_value from) = seen ∙ ap (λ (i : ℕ). xored i (address_value from)) number in
    let same : (all ++ a ∷ []) ++ b ∷ [] ≡ allocated_attributes n relayed lifetime from =
    append_assoc all (a ∷ []) (b ∷ []) ∙ ap (λ (l : List Attr). all ++ l) (ap (λ (s : ℕ). attr_of lifetime_kind (big_bytes 4 s) ∷ b ∷ []) reported ∙ ap (λ (v : List ℕ). attr_of lifetime_kind (big_bytes 4 lifetime) ∷ attr_of xor_mapped_address_kind v ∷ []) value) in
    subst (λ (l : List Attr). IsComposed kind n l old four) same r4

-- The second of the addresses, as a look-up by index returns it.
pub second_of : (found : Option (Bor SocketAddr)) (relayed : List SocketAddr) → MatchOption found (length relayed ≤ 1) (λ x. (1 < length relayed) × HoldsAt (λ y. x.now ≡ y) relayed 1) → option_copied found ≡ slice_get relayed 1
second_of None [] h = refl
second_of None (a ∷ []) h = refl
second_of None (a ∷ b ∷ rest) h = absurd (omega (arith, h))
second_of (Some x) [] h = absurd (omega (arith, h.0))
second_of (Some x) (a ∷ []) h = absurd (omega (arith, h.0))
second_of (Some x) (a ∷ b ∷ rest) h = ap Some (h.1 b)
