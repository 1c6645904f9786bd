-- The addresses to which a relay should not relay by default, as lists of blocks.
use Rattle.std.specs.Prelude.{◌≡◌, ◌+◌, ◌*◌, ◌-◌, ◌/◌, ◌^◌, ◌⊎◌, ℕ, List, [], ◌∷◌, ◌++◌, map}
use Rattle.std.specs.Net.Addr.{ipv4_bits, ipv6_bits, MatchIp}
use Rattle.std.specs.declared.net.ip_addr.IpAddr.{IpAddr}

-- A block of addresses, as RFC 6890 writes them (`first/length`): the big-endian value of its first address,
-- and how many leading bits its addresses share.
pub record Block : Type 0 where
  pub first : ℕ
  pub length : ℕ

-- The first `count` bits of an address of `width` bits.
abbrev pub first_bits : ℕ → ℕ → ℕ → ℕ
first_bits width count address = address / 2 ^ (width - count)

-- The first bits of the address are those of the block.
abbrev pub IsInBlock : ℕ → ℕ → Block → Type 0
IsInBlock width address block =
    first_bits width block.length address ≡ first_bits width block.length block.first

-- The address is in one of the blocks.
unfoldable pub IsInOneOf : ℕ → ℕ → List Block → Type 0
IsInOneOf width address [] = ⊥
IsInOneOf width address (block ∷ blocks) = IsInBlock width address block ⊎ IsInOneOf width address blocks

abbrev block : ℕ → ℕ → Block
block first length = record { first = first; length = length }

-- IPv4: "this network", loopback, link-local and reserved addresses with the broadcast address (RFC 6890,
-- section 2.2.2), and multicast (RFC 5771, section 3).
unfoldable pub ipv4_blocks : List Block
ipv4_blocks =
    block 0x00000000 8  -- 0.0.0.0/8
    ∷ block 0x7f000000 8  -- 127.0.0.0/8
    ∷ block 0xa9fe0000 16  -- 169.254.0.0/16
    ∷ block 0xe0000000 4  -- 224.0.0.0/4
    ∷ block 0xf0000000 4  -- 240.0.0.0/4
    ∷ []

-- The addresses that a NAT64 with the prefix 64:ff9b::/96 translates to an address of the block (RFC 6052,
-- section 2).
abbrev pub nat64_block : Block → Block
nat64_block b = block (0x64ff9b * 2 ^ 96 + b.first) (96 + b.length)

-- IPv6: the unspecified address, loopback, IPv4-mapped and link-local addresses (RFC 6890, section 2.2.3),
-- multicast (RFC 4291, section 2.7), and Teredo and 6to4, which RFC 8656, section 21.4 forbids as tunnels.
unfoldable pub ipv6_blocks : List Block
ipv6_blocks =
    block 0 128  -- ::/128
    ∷ block 1 128  -- ::1/128
    ∷ block (0xffff * 2 ^ 32) 96  -- ::ffff:0:0/96
    ∷ block (0x2001 * 2 ^ 112) 32  -- 2001::/32
    ∷ block (0x2002 * 2 ^ 112) 16  -- 2002::/16
    ∷ block (0xfe80 * 2 ^ 112) 10  -- fe80::/10
    ∷ block (0xff00 * 2 ^ 112) 8  -- ff00::/8
    ∷ map nat64_block ipv4_blocks

-- The IPv4 address with this big-endian value is forbidden.
unfoldable pub IsForbiddenIpv4 : ℕ → Type 0
IsForbiddenIpv4 address = IsInOneOf 32 address ipv4_blocks

-- The IPv6 address with this big-endian value is forbidden.
unfoldable pub IsForbiddenIpv6 : ℕ → Type 0
IsForbiddenIpv6 address = IsInOneOf 128 address ipv6_blocks

-- The address is forbidden.
abbrev pub IsForbidden : IpAddr → Type 0
IsForbidden peer =
    MatchIp peer (λ ip. IsForbiddenIpv4 (ipv4_bits ip)) (λ ip. IsForbiddenIpv6 (ipv6_bits ip))
