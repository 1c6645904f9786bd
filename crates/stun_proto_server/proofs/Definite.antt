-- The result of an authenticator's call and the server that it leaves are unique, if a message does not name
-- two users.
use Rattle.std.proofs.Common.{◌≡◌, ℕ, List, Bool, true, false, Option, Some, None, MatchOption, refl, sym, ap, ◌∙◌, subst}
use Rattle.std.specs.Prelude.{if◌then◌else◌, IsSomeAnd}
use Rattle.std.specs.Option.{option_or}
use Rattle.std.specs.declared.net.socket_addr.SocketAddr.{SocketAddr}
use Rattle.rand_core.specs.Stream.{Stream}
use Rattle.stun_proto_verify.specs.Auth.Addition.{Addition}
use Rattle.stun_proto_verify.specs.Auth.AdditionStages.{IsMade}
use Rattle.stun_proto_verify.specs.Wire.Attributes.{kind_at}
use Rattle.stun_proto_verify.specs.Write.Drafts.{Draft}
use Rattle.stun_proto_verify.specs.Wire.declared.algorithm.IntegrityAlgorithm.{IntegrityAlgorithm}
use Rattle.stun_proto_verify.specs.Wire.Types.{class_of}
use Rattle.stun_proto_verify.specs.Wire.declared.error.StunWriteError.{StunWriteError}
use Rattle.stun_proto_verify.specs.Auth.Claims.{Claimed, claimed}
use Rattle.stun_proto_verify.specs.Judgement.{HasWrongDigest, IsRefused, claim_refusal, is_response, judgement}
use Rattle.stun_proto_verify.specs.Knowledge.{Knowledge, Named}
use Rattle.stun_proto_verify.specs.declared.error.LongTermServerAuthError.{LongTermServerAuthError}
use Rattle.stun_proto_verify.specs.declared.error.LongTermServerAuthError.TheVariants.{BadRequest, IntegrityFailed}
use Rattle.stun_proto_server.specs.declared.validation.LongTermServerValidation.TheVariants.{Validated}
use Rattle.stun_proto_server.specs.AuthCalls.{AuthAnswer, AuthCall, IsCalled, IsJudged, IsSignedBy}
use Rattle.stun_proto_server.specs.AuthCalls as call
use Rattle.stun_proto_server.specs.AuthRuns.{CallNamesOne}
use Rattle.stun_proto_server.specs.Server.{Server, refreshed, with_outcome}
use Rattle.stun_proto_server.specs.ServerSigning.{addition_for}
use Rattle.stun_proto_server.specs.ServerValidation.{Accepts, Refuses, known_of}
use Rattle.stun_proto_server.specs.Users.{IsFound, NamesOne}
use Rattle.stun_proto_server.proofs.Named.{inside, never_both, same_users, user_by}
use Rattle.stun_proto_server.proofs.Validated.{names_one_still}

-- ---- one cause of a refusal

-- The user that is found is unique.
found_same : (server : Server) (claim : Claimed) (found other : Option Named) → NamesOne server claim → IsFound server claim found → IsFound server claim other → found ≡ other
found_same server claim None None one a b = refl
found_same server claim None (Some user) one a b = absurd (a user b)
found_same server claim (Some user) None one a b = absurd (b user a)
found_same server claim (Some user) (Some other) one a b = ap (λ (u : Named). Some u) (same_users server claim user other one a b)

cause_same : (known : Knowledge) (bytes : List ℕ) (cause : Option LongTermServerAuthError) (error other : LongTermServerAuthError)
    → MatchOption cause (HasWrongDigest known bytes error) (λ c. error ≡ c) → MatchOption cause (HasWrongDigest known bytes other) (λ c. other ≡ c) → error ≡ other
cause_same known bytes None error other a b =
    a.is ∙ ap (λ (algorithm : IntegrityAlgorithm). IntegrityFailed algorithm) (inside (sym a.last ∙ b.last)) ∙ sym b.is
cause_same known bytes (Some cause) error other a b = a ∙ sym b

-- A response is rejected for being one, whatever the server knows.
judged_response : (known : Knowledge) (bytes : List ℕ) → is_response bytes ≡ true → judgement known bytes ≡ Some BadRequest
unfolding judgement
judged_response known bytes response = ap (λ (b : Bool). option_or (if b then Some BadRequest else None) (claim_refusal known (claimed bytes))) response

for_response : (known : Knowledge) (bytes : List ℕ) (error : LongTermServerAuthError) → is_response bytes ≡ true → IsRefused known bytes error → error ≡ BadRequest
for_response known bytes error response is =
    subst (λ (o : Option LongTermServerAuthError). MatchOption o (HasWrongDigest known bytes error) (λ c. error ≡ c)) (judged_response known bytes response) is

refused_by : (server : Server) (from : SocketAddr) (bytes : List ℕ) (response : Bool) → is_response bytes ≡ response → (error other : LongTermServerAuthError) → NamesOne server (claimed bytes)
    → Refuses server from bytes error → Refuses server from bytes other → error ≡ other
refused_by server from bytes true response error other one a b =
    for_response (known_of server from a.found) bytes error response a.refused ∙ sym (for_response (known_of server from b.found) bytes other response b.refused)
refused_by server from bytes false request error other one a b =
    let found : a.found ≡ b.found = found_same server (claimed bytes) a.found b.found one (a.is_found request) (b.is_found request) in
    let moved = subst (λ (user : Option Named). IsRefused (known_of server from user) bytes error) found a.refused in
    cause_same (known_of server from b.found) bytes (judgement (known_of server from b.found) bytes) error other moved b.refused

-- The error with which a message is rejected is unique.
pub refused_same : (server : Server) (from : SocketAddr) (bytes : List ℕ) (error other : LongTermServerAuthError) → NamesOne server (claimed bytes)
    → Refuses server from bytes error → Refuses server from bytes other → error ≡ other
refused_same server from bytes error other one a b = refused_by server from bytes (is_response bytes) refl error other one a b

-- The user and the algorithm with which a message is accepted are unique.
pub accepted_same : (server : Server) (from : SocketAddr) (bytes : List ℕ) (algorithm other : IntegrityAlgorithm) (name another : List ℕ) → NamesOne server (claimed bytes)
    → Accepts server from bytes algorithm name → Accepts server from bytes other another → (name ≡ another) × (algorithm ≡ other)
accepted_same server from bytes algorithm other name another one a b = (
  ap (λ (user : Named). user.name) (same_users server (claimed bytes) (user_by name a.password) (user_by another b.password) one a.named b.named),
  inside (sym a.judged.last ∙ b.judged.last),
)

-- ---- one result

-- Two results are equal, and so are the servers that they leave.
abbrev pub AreOne : AuthAnswer → AuthAnswer → Server → Server → Type 0
AreOne answer again new other = (answer ≡ again) × (new ≡ other)

module _ (old : Server) (bytes : List ℕ) (from : SocketAddr) (now : ℕ) (stream : Stream) (names_one : NamesOne old (claimed bytes)) where
  one_still : NamesOne (refreshed old from now stream) (claimed bytes)
  one_still = names_one_still old from now stream (claimed bytes) names_one

  judged_same : (answer again : AuthAnswer) (new other : Server) → IsJudged answer old bytes from now stream new → IsJudged again old bytes from now stream other → AreOne answer again new other
  judged_same (call.Valid (Validated algorithm) left) (call.Valid (Validated another) remains) new other a b =
      let same = accepted_same (refreshed old from now stream) from bytes algorithm another a.0.name b.0.name one_still a.0.accepts b.0.accepts in
      let streams : left ≡ remains = a.1 ∙ sym b.1 in (
        (λ i. call.Valid (Validated (same.1 i)) (streams i)),
        a.0.stored ∙ (λ i. with_outcome (refreshed old from now stream) from (Some (record { name = same.0 i; algorithm = same.1 i }))) ∙ sym b.0.stored,
      )
  judged_same (call.Refused error left) (call.Refused cause remains) new other a b =
      let same : error ≡ cause = refused_same (refreshed old from now stream) from bytes error cause one_still a.1 b.1 in
      let streams : left ≡ remains = a.3 ∙ sym b.3 in
      ((λ i. call.Refused (same i) (streams i)), a.2 ∙ sym b.2)
  judged_same (call.Valid (Validated algorithm) left) (call.Refused cause remains) new other a b =
      absurd (never_both (refreshed old from now stream) from bytes algorithm a.0.name cause one_still a.0.accepts b.1)
  judged_same (call.Refused error left) (call.Valid (Validated another) remains) new other a b =
      absurd (never_both (refreshed old from now stream) from bytes another b.0.name error one_still b.0.accepts a.1)
  judged_same (call.Valid (Validated algorithm) left) _ new other a b = absurd b
  judged_same (call.Refused error left) _ new other a b = absurd b
  judged_same _ again new other a b = absurd a

made_same : (addition : Option Addition) (draft one other : Draft) → IsSomeAnd addition (λ made. IsMade made draft one) → IsSomeAnd addition (λ made. IsMade made draft other) → one ≡ other
made_same None draft one other a b = absurd a
made_same (Some made) draft one other a b = a.is ∙ sym b.is

signed_same : (addition : Option Addition) (draft : Draft) (answer again : AuthAnswer) → IsSignedBy answer addition draft → IsSignedBy again addition draft → answer ≡ again
signed_same addition draft (call.Signed one) (call.Signed other) a b = ap (λ (d : Draft). call.Signed d) (made_same addition draft one other a.1 b.1)
signed_same addition draft (call.NotSigned error) (call.NotSigned cause) a b = ap (λ (e : StunWriteError). call.NotSigned e) (inside (sym a.1 ∙ b.1))
signed_same addition draft (call.Signed one) (call.NotSigned cause) a b = let clash : None ≡ Some cause = sym a.0 ∙ b.1 in absurd (Prim.cc clash)
signed_same addition draft (call.NotSigned error) (call.Signed other) a b = let clash : None ≡ Some error = sym b.0 ∙ a.1 in absurd (Prim.cc clash)
signed_same addition draft (call.Signed one) _ a b = absurd b
signed_same addition draft (call.NotSigned error) _ a b = absurd b
signed_same addition draft _ again a b = absurd a

-- Two results that equal a given one are equal.
decoded_same : (answer again decoded : AuthAnswer) (new other after : Server) → (answer ≡ decoded) × (new ≡ after) → (again ≡ decoded) × (other ≡ after) → AreOne answer again new other
decoded_same answer again decoded new other after a b = (a.0 ∙ sym b.0, a.1 ∙ sym b.1)

-- A call has one result, and leaves one server.
pub called_same : (old : Server) (one : AuthCall) (answer again : AuthAnswer) (new other : Server) → CallNamesOne old one
    → IsCalled one answer old new → IsCalled one again old other → AreOne answer again new other
called_same old (call.Validate bytes from now stream) answer again new other names_one a b = judged_same old bytes from now stream names_one answer again new other a b
called_same old (call.Sign draft to) answer again new other names_one a b =
    (signed_same (addition_for old to (class_of (kind_at draft.bytes))) draft answer again a.1 b.1, a.2 ∙ sym b.2)
called_same old (call.SizeRequested to is_request) answer again new other names_one a b = decoded_same answer again _ new other _ a b
called_same old (call.NonceRequested client) answer again new other names_one a b = decoded_same answer again _ new other _ a b
called_same old (call.UserRequested client) answer again new other names_one a b = decoded_same answer again _ new other _ a b
called_same old (call.Refresh from now stream) answer again new other names_one a b = decoded_same answer again _ new other _ a b
called_same old (call.RemoveClient client) answer again new other names_one a b = decoded_same answer again _ new other _ a b
called_same old call.RealmRequested answer again new other names_one a b = decoded_same answer again _ new other _ a b
called_same old (call.AddUser name password) answer again new other names_one a b = decoded_same answer again _ new other _ a b
called_same old (call.RemoveUser name) answer again new other names_one a b = decoded_same answer again _ new other _ a b
called_same old call.AlgorithmsRequested answer again new other names_one a b = decoded_same answer again _ new other _ a b
called_same old (call.AddAlgorithm algorithm) answer again new other names_one a b = decoded_same answer again _ new other _ a b
called_same old (call.SetAlgorithm algorithm) answer again new other names_one a b = decoded_same answer again _ new other _ a b
called_same old call.AnonymityRequested answer again new other names_one a b = decoded_same answer again _ new other _ a b
called_same old (call.SetAnonymity feature) answer again new other names_one a b = decoded_same answer again _ new other _ a b
called_same old (call.SetExpiry expiry) answer again new other names_one a b = (a.1 ∙ sym b.1, a.2 ∙ sym b.2)
called_same old call.LimitRequested answer again new other names_one a b = decoded_same answer again _ new other _ a b
called_same old (call.SetLimit most) answer again new other names_one a b = (a.1 ∙ sym b.1, a.2 ∙ sym b.2)
