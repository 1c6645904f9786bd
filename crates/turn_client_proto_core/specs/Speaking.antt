-- How a client introduces itself in its requests: its next credentials, SOFTWARE and FINGERPRINT.
use Rattle.std.specs.Prelude.{ℕ, Bool, List, Option, Some}
use Rattle.stun_types_integrity.specs.Credentials.{NameAndPassword}
use Rattle.turn_client_proto_core.specs.declared.protocol.Protocol.{Protocol}

-- The client with these credentials, which replace the present ones with the next challenge that it accepts (RFC 8489,
-- section 9.2.5).
abbrev pub with_next_credentials : NameAndPassword → Protocol → Protocol
with_next_credentials credentials p = record p { auth = record p.auth { next_account = Some credentials } }

-- The client whose requests carry this SOFTWARE, or none (RFC 8489, section 14.14).
abbrev pub with_software : Option (List ℕ) → Protocol → Protocol
with_software software p =
    record p { auth = record p.auth { style = record p.auth.style { software = software } } }

-- The client whose requests end with FINGERPRINT, or don't (RFC 8489, section 14.7).
abbrev pub with_fingerprint : Bool → Protocol → Protocol
with_fingerprint fingerprint p =
    record p { auth = record p.auth { style = record p.auth.style { fingerprint = fingerprint } } }
