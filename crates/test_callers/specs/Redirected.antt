-- A message that names other servers (RFC 8489, section 14.15).
use Rattle.std.specs.Prelude.{◌≡◌, ℕ, List, ◌++◌, map}
use Rattle.std.specs.declared.net.socket_addr.SocketAddr.{SocketAddr}
use Rattle.stun_types.specs.Adding.{attr_of}
use Rattle.stun_types.specs.Addresses.{address_value}
use Rattle.stun_types.specs.Attributes.{Attr}
use Rattle.stun_types.specs.Registry.{alternate_server_kind}
use Rattle.stun_types.specs.Text.{message_text}

-- The ALTERNATE-SERVER for an address.
abbrev pub alternate : SocketAddr → Attr
alternate server = attr_of alternate_server_kind (address_value server)

-- The new bytes are the message of the old ones with an ALTERNATE-SERVER for each of these servers at its
-- end.
abbrev pub GrowsBy : List SocketAddr → List ℕ → List ℕ → Type 0
GrowsBy servers old new = (mtype number : ℕ) (adds : List Attr) → old ≡ message_text mtype number adds
    → new ≡ message_text mtype number (adds ++ map alternate servers)
