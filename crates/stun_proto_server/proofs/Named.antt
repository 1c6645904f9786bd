-- The decision on a message, by the user that it names.
use Rattle.std.proofs.Common.{◌≡◌, ℕ, List, Option, Some, None, false, refl, sym, ap, ◌∙◌, subst}
use Rattle.std.specs.Prelude.{IsSome}
use Rattle.std.specs.FinMap as map
use Rattle.std.specs.declared.net.socket_addr.SocketAddr.{SocketAddr}
use Rattle.stun_proto_verify.specs.Wire.declared.algorithm.IntegrityAlgorithm.{IntegrityAlgorithm}
use Rattle.stun_proto_verify.specs.Auth.Claims.{Claimed, claimed}
use Rattle.stun_proto_verify.specs.declared.error.LongTermServerAuthError.{LongTermServerAuthError}
use Rattle.stun_proto_verify.specs.Knowledge.{Named}
use Rattle.stun_proto_verify.specs.Judgement.{IsAccepted, IsRefused, ServerAccepts, is_response, unnamed_refusal}
use Rattle.stun_proto_verify.proofs.Judging.{not_both, refuses_claim}
use Rattle.stun_proto_server.specs.Server.{Server}
use Rattle.stun_proto_server.specs.ServerValidation.{Accepts, AcceptsSome, Refuses, known_of}
use Rattle.stun_proto_server.specs.Users.{HashesDiffer, IsClaimedName, IsFound, IsUser, Names, NamesOne}
use Rattle.stun_proto_server.proofs.Finding.{decided}

pub inside : {A : Type 0} {x y : A} → Some x ≡ Some y → x ≡ y
inside p = Prim.cc p

-- ---- one user

-- The user with a name and a password.
abbrev pub user_by : List ℕ → List ℕ → Named
user_by name password = record { name = name; password = password }

-- A name with a password is that of an existing user.
there : (found : Option (List ℕ)) (password : List ℕ) → found ≡ Some password → IsSome found
there found password is = rw is refl

-- Users that the same claim names have the same name.
same_names : (server : Server) (username hash : Option (List ℕ)) (a b : Named) → (username ≡ None → HashesDiffer server)
    → IsUser server (IsClaimedName server.realm username hash) a → IsUser server (IsClaimedName server.realm username hash) b → a.name ≡ b.name
same_names server (Some visible) hash a b one is other = is.named ∙ sym other.named
same_names server None hash a b one is other =
    one refl a.name b.name (there (map.get server.users a.name) a.password is.present) (there (map.get server.users b.name) b.password other.present) (inside (sym is.named ∙ other.named))

-- Users that the same claim names are equal.
pub same_users : (server : Server) (claim : Claimed) (a b : Named) → NamesOne server claim → Names server claim a → Names server claim b → a ≡ b
same_users server claim a b one is other =
    let names : a.name ≡ b.name = same_names server claim.username claim.user_hash a b one is other in
    let passwords : a.password ≡ b.password = inside (sym is.present ∙ ap (map.get server.users) names ∙ other.present) in
    λ i. record { name = names i; password = passwords i }

-- The user that is found is the one that the claim names.
found_is : (server : Server) (claim : Claimed) (user : Named) (found : Option Named) → NamesOne server claim → Names server claim user → IsFound server claim found → found ≡ Some user
found_is server claim user None one is nobody = absurd (nobody user is)
found_is server claim user (Some other) one is found = ap Some (same_users server claim other user one found is)

-- ---- yes and no

-- No message is both accepted and rejected.
pub never_both : (server : Server) (from : SocketAddr) (bytes : List ℕ) (algorithm : IntegrityAlgorithm) (name : List ℕ) (error : LongTermServerAuthError) → NamesOne server (claimed bytes)
    → Accepts server from bytes algorithm name → Refuses server from bytes error → ⊥
never_both server from bytes algorithm name error one a r =
    let found : r.found ≡ Some (user_by name a.password) = found_is server (claimed bytes) (user_by name a.password) r.found one a.named (r.is_found a.judged.no_response) in
    not_both (known_of server from (Some (user_by name a.password))) bytes algorithm name error a.judged (subst (λ (user : Option Named). IsRefused (known_of server from user) bytes error) found r.refused)

-- A message accepted with the user that was found is accepted by the server.
pub accepted : (server : Server) (from : SocketAddr) (bytes : List ℕ) (algorithm : IntegrityAlgorithm) (name : List ℕ) (found : Option Named) → IsFound server (claimed bytes) found
    → ServerAccepts (known_of server from found) bytes algorithm name → Accepts server from bytes algorithm name
accepted server from bytes algorithm name found is judged = record {
  password = judged.password;
  named = subst (IsFound server (claimed bytes)) judged.present is;
  judged = subst (λ (user : Option Named). ServerAccepts (known_of server from user) bytes algorithm name) judged.present judged;
}

-- A message rejected with the user that was found is rejected by the server.
pub refused : (server : Server) (from : SocketAddr) (bytes : List ℕ) (error : LongTermServerAuthError) (found : Option Named) → IsFound server (claimed bytes) found
    → IsRefused (known_of server from found) bytes error → Refuses server from bytes error
refused server from bytes error found is judged = record { found = found; is_found = λ _. is; refused = judged }

-- A message that is rejected without its user is rejected by the server, whoever the user is.
pub refused_unnamed : (server : Server) (from : SocketAddr) (bytes : List ℕ) (error : LongTermServerAuthError) → is_response bytes ≡ false
    → unnamed_refusal (known_of server from None) (claimed bytes) ≡ Some error → Refuses server from bytes error
unfolding unnamed_refusal
refused_unnamed server from bytes error other cause =
    let one = decided server (claimed bytes) in
    record {
      found = one.found;
      is_found = λ _. one.is;
      refused = refuses_claim (known_of server from one.found) bytes (claimed bytes) error refl other cause;
    }

-- A claim that passed without its user still passes with the user that was found.
pub passed_named : (server : Server) (from : SocketAddr) (claim : Claimed) (found : Option Named) → unnamed_refusal (known_of server from None) claim ≡ None
    → unnamed_refusal (known_of server from found) claim ≡ None
unfolding unnamed_refusal
passed_named server from claim found passed = passed

-- A message accepted as that of some user, with the user that was found, is accepted by the server as that of
-- some user.
pub wanted : (server : Server) (from : SocketAddr) (bytes : List ℕ) (found : Option Named) → IsFound server (claimed bytes) found
    → IsAccepted (known_of server from found) bytes → AcceptsSome server from bytes
wanted server from bytes found is some = record {
  algorithm = some.algorithm;
  name = some.name;
  accepts = accepted server from bytes some.algorithm some.name found is some.accepts;
}

-- The cases of the result.
pub ruleset answers = (accepted, refused, refused_unnamed, passed_named, wanted)
