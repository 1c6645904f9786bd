-- The addresses of a trace.
use Rattle.std.specs.Prelude.{ℕ, List, [], ◌∷◌}
use Rattle.std.specs.Net.Grammar.{IsIpText, IsSocketText}
use Rattle.std.specs.declared.net.ip_addr.IpAddr.{IpAddr}
use Rattle.std.specs.declared.net.socket_addr.SocketAddr.{SocketAddr}

-- The one or two texts spell these transport addresses, in order.
abbrev pub AreAddresses : List (List ℕ) → List SocketAddr → Type 0
AreAddresses (text ∷ []) (a ∷ []) = IsSocketText text a
AreAddresses (text ∷ second ∷ []) (a ∷ b ∷ []) = IsSocketText text a × IsSocketText second b
AreAddresses texts addresses = ⊥

-- The texts spell these IP addresses, in order.
abbrev pub AreIps : List (List ℕ) → List IpAddr → Type 0
AreIps [] [] = Unit {0}
AreIps (text ∷ texts) (ip ∷ ips) = IsIpText text ip × AreIps texts ips
AreIps texts ips = ⊥
