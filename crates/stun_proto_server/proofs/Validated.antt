-- The result of a validation, and its premises.
use Rattle.std.proofs.Common.{◌≡◌, ◌≢◌, ℕ, List, Bool, true, false, Option, Some, None, refl, sym, ap, ◌∙◌, subst}
use Rattle.std.specs.Prelude.{Result, Ok, Err, IfOk, IfErr, MatchResult, MatchOption, if◌then◌else◌}
use Rattle.std.specs.Option.{option_or}
use Rattle.std.specs.declared.net.socket_addr.SocketAddr.{SocketAddr}
use Rattle.rand_core.specs.Stream.{Stream}
use Rattle.stun_proto_verify.proofs.Base.WordLemmas.{stream_after-zero}
use Rattle.stun_proto_verify.specs.Base.GeneratorWords.{stream_after}
use Rattle.stun_proto_verify.specs.Wire.declared.algorithm.IntegrityAlgorithm.{IntegrityAlgorithm}
use Rattle.stun_proto_verify.specs.declared.error.LongTermServerAuthError.{LongTermServerAuthError}
use Rattle.stun_proto_verify.specs.declared.error.LongTermServerAuthError.TheVariants.{Unauthorized, IntegrityFailed, BadRequest, StaleNonce, NoMemory}
use Rattle.stun_proto_verify.specs.Auth.Claims.{Claimed, claimed}
use Rattle.stun_proto_verify.specs.Knowledge.{Knowledge}
use Rattle.stun_proto_verify.specs.Judgement.{HasWrongDigest, IsRefused, is_response, claim_refusal, judgement}
use Rattle.stun_proto_server.proofs.Named.{never_both}
use Rattle.stun_proto_server.specs.declared.validation.LongTermServerValidation.{LongTermServerValidation}
use Rattle.stun_proto_server.specs.declared.validation.LongTermServerValidation.TheVariants.{Validated}
use Rattle.stun_proto_server.specs.Server.{Server, has_standing_nonce, refreshed, with_new_nonce, words_generated}
use Rattle.stun_proto_server.specs.ServerValidation.{Accepts, IsValidated, Refuses, known_of, words_of_validation}
use Rattle.stun_proto_server.specs.Users.{NamesOne}

-- A response is rejected first.
judged_response : (known : Knowledge) (bytes : List ℕ) → is_response bytes ≡ true → judgement known bytes ≡ Some BadRequest
unfolding judgement
judged_response known bytes is = ap (λ (b : Bool). option_or (if b then Some BadRequest else None) (claim_refusal known (claimed bytes))) is

judged_so : (known : Knowledge) (bytes : List ℕ) → is_response bytes ≡ true → IsRefused known bytes BadRequest
judged_so known bytes is =
    subst (λ (o : Option LongTermServerAuthError). MatchOption o (HasWrongDigest known bytes BadRequest) (λ c. BadRequest ≡ c)) (sym (judged_response known bytes is)) refl

pub response_is_refused : (server : Server) (from : SocketAddr) (bytes : List ℕ) → is_response bytes ≡ true → Refuses server from bytes BadRequest
response_is_refused server from bytes is = record {
  found = None;
  is_found = λ no. absurd (Prim.cc (sym is ∙ no));
  refused = judged_so (known_of server from None) bytes is;
}

-- A response generates no random words.
pub response_draws_none : (server : Server) (from : SocketAddr) (bytes : List ℕ) (now : ℕ) (stream : Stream) → is_response bytes ≡ true → stream ≡ stream_after (words_of_validation server from bytes now) stream
response_draws_none server from bytes now stream is =
    sym (ap (λ (b : Bool). stream_after (if b then 0 else words_generated server from now) stream) is ∙ stream_after-zero stream)

-- The result for a message that is accepted.
decoded : (server : Server) (from : SocketAddr) (bytes : List ℕ) (answer : LongTermServerValidation) (new : Server) (algorithm : IntegrityAlgorithm) (name : List ℕ) → IsValidated server from bytes answer new → Accepts server from bytes algorithm name → answer ≡ Validated algorithm
decoded server from bytes (Validated other) new algorithm name valid a =
    ap Validated (inside (sym valid.accepts.judged.last ∙ a.judged.last))
  where
    inside : {x y : IntegrityAlgorithm} → Some x ≡ Some y → x ≡ y
    inside p = Prim.cc p

pub accepted_is_answered : (server : Server) (from : SocketAddr) (bytes : List ℕ) (result : Result LongTermServerValidation LongTermServerAuthError) (new : Server) → NamesOne server (claimed bytes)
    → IfOk result (λ answer. IsValidated server from bytes answer new) → IfErr result (λ error. error ≢ NoMemory → Refuses server from bytes error)
    → (algorithm : IntegrityAlgorithm) (name : List ℕ) → Accepts server from bytes algorithm name → MatchResult result (λ answer. answer ≡ Validated algorithm) (λ error. error ≡ NoMemory)
accepted_is_answered server from bytes (Ok answer) new one valid refused algorithm name a = decoded server from bytes answer new algorithm name valid a
accepted_is_answered server from bytes (Err NoMemory) new one valid refused algorithm name a = refl
accepted_is_answered server from bytes (Err Unauthorized) new one valid refused algorithm name a = absurd (never_both server from bytes algorithm name Unauthorized one a (refused (λ p. Prim.cc p)))
accepted_is_answered server from bytes (Err BadRequest) new one valid refused algorithm name a = absurd (never_both server from bytes algorithm name BadRequest one a (refused (λ p. Prim.cc p)))
accepted_is_answered server from bytes (Err StaleNonce) new one valid refused algorithm name a = absurd (never_both server from bytes algorithm name StaleNonce one a (refused (λ p. Prim.cc p)))
accepted_is_answered server from bytes (Err (IntegrityFailed x)) new one valid refused algorithm name a = absurd (never_both server from bytes algorithm name (IntegrityFailed x) one a (refused (λ p. Prim.cc p)))

-- Generating a nonce changes no user.
pub names_one_still : (old : Server) (from : SocketAddr) (now : ℕ) (stream : Stream) (claim : Claimed) → NamesOne old claim → NamesOne (refreshed old from now stream) claim
names_one_still old from now stream claim one =
    elim (has_standing_nonce old from now) as (λ b. NamesOne (if b then old else with_new_nonce old from now stream) claim) [
      | true ↦ one
      | false ↦ one
    ]

-- The result for a message that is accepted, with the server after the nonce given as an equal one.
pub accepted_by_same : (old middle : Server) (from : SocketAddr) (now : ℕ) (stream : Stream) (bytes : List ℕ) (result : Result LongTermServerValidation LongTermServerAuthError) (new : Server) → middle ≡ refreshed old from now stream
    → IfOk result (λ answer. IsValidated middle from bytes answer new) → IfErr result (λ error. error ≢ NoMemory → Refuses middle from bytes error)
    → (algorithm : IntegrityAlgorithm) (name : List ℕ) → Accepts (refreshed old from now stream) from bytes algorithm name → NamesOne old (claimed bytes) → MatchResult result (λ answer. answer ≡ Validated algorithm) (λ error. error ≡ NoMemory)
accepted_by_same old middle from now stream bytes result new is valid refused algorithm name a one =
    accepted_is_answered middle from bytes result new (subst (λ (s : Server). NamesOne s (claimed bytes)) (sym is) (names_one_still old from now stream (claimed bytes) one)) valid refused algorithm name
    (subst (λ (s : Server). Accepts s from bytes algorithm name) (sym is) a)
