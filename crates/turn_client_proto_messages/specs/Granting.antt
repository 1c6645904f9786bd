-- The allocations that a success response to an ALLOCATE grants (RFC 8656, section 7.3).
use Rattle.std.specs.Prelude.{ℕ, Bool, ◌&&◌, not, List, [], ◌∷◌, ◌++◌, map, filter, if◌then◌else◌}
use Rattle.std.specs.List.{list_any}
use Rattle.std.specs.declared.net.socket_addr.SocketAddr.{SocketAddr}
use Rattle.stun_types_base.specs.Family.{family_of_socket}
use Rattle.stun_types_base.specs.declared.family.AddressFamily.{AddressFamily}
use Rattle.stun_types_base.specs.declared.transport.TransportType.{TransportType}
pub use Rattle.turn_client_proto_allocation.specs.Firsts.{first_of_each}
use Rattle.turn_client_proto_allocation.specs.Refreshing.{granted}
use Rattle.turn_client_proto_allocation.specs.declared.allocation.Allocation.{Allocation}
use Rattle.turn_client_proto_api.specs.Families.{is_same_family}

-- The two addresses are of the same family.
abbrev pub are_of_one_family : SocketAddr → SocketAddr → Bool
are_of_one_family one other = is_same_family (family_of_socket one) (family_of_socket other)

-- The family of the address is requested.
abbrev pub is_wanted : List AddressFamily → SocketAddr → Bool
is_wanted families address = list_any (is_same_family (family_of_socket address)) families

-- The allocations for these addresses: one for the first address of each requested family.
abbrev pub allocations_of : List AddressFamily → TransportType → ℕ → ℕ → List SocketAddr → List Allocation
allocations_of families transport lifetime now addresses =
    map (λ address. granted transport address lifetime now)
    (first_of_each are_of_one_family (filter (is_wanted families) addresses))

-- One of the allocations has a relayed address of this family.
abbrev pub has_family : AddressFamily → List Allocation → Bool
has_family family allocations =
    list_any (λ (a : Allocation). is_same_family family (family_of_socket a.address)) allocations

-- The families that have no allocation.
abbrev pub families_without : List AddressFamily → List Allocation → List AddressFamily
families_without families allocations = filter (λ family. not (has_family family allocations)) families

-- ---- one address more

-- The address makes a new allocation: its family is requested, and no allocation has an address of it yet.
abbrev pub counts : List AddressFamily → List Allocation → SocketAddr → Bool
counts families before address =
    is_wanted families address && not (has_family (family_of_socket address) before)

-- The allocations with one for this address, if it makes a new one.
unfoldable pub with_address : List AddressFamily → TransportType → (lifetime now : ℕ) → List Allocation → SocketAddr
    → List Allocation
with_address families transport lifetime now before address =
    if counts families before address then before ++ granted transport address lifetime now ∷ [] else before
