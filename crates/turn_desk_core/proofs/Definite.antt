-- The reply to a request and the state after it are unique, if the request does not name two users.
use Rattle.std.proofs.Common.{◌≡◌, ℕ, List, Option, Some, sym, ap, ◌∙◌, inl, inr}
use Rattle.std.specs.FinMap as map
use Rattle.std.specs.declared.net.socket_addr.SocketAddr.{SocketAddr}
use Rattle.rand_core.specs.Stream.{Stream}
use Rattle.stun_types_wire.specs.Grammar.{number_at}
use Rattle.stun_types_wire.specs.declared.algorithm.IntegrityAlgorithm.{IntegrityAlgorithm}
use Rattle.stun_types_message.specs.Objections.{error_type}
use Rattle.stun_types_wire.specs.Text.{message_text}
use Rattle.stun_proto_verify.specs.Auth.Claims.{claimed}
use Rattle.stun_proto_verify.specs.Judgement.{user_key}
use Rattle.stun_proto_server.specs.Server.{Server, nonce_at, refreshed, with_outcome}
use Rattle.stun_proto_verify.specs.declared.error.LongTermServerAuthError.{LongTermServerAuthError}
use Rattle.stun_proto_server.specs.Users.{NamesOne}
use Rattle.stun_proto_server.proofs.Definite.{accepted_same, refused_same}
use Rattle.stun_proto_server.proofs.Named.{inside, never_both}
use Rattle.stun_proto_server.proofs.Validated.{names_one_still}
use Rattle.turn_desk_core.specs.Replies.{signed_text}
use Rattle.turn_desk_core.specs.Verdicts.{reply_attributes, reply_type, verdict_on}
use Rattle.turn_desk_core.specs.declared.decision.Decision.{Decision}
use Rattle.turn_desk_core.specs.State.{State}
use Rattle.turn_desk_core.specs.Steps.{IsAnswer, IsChallenge, IsVerdict, refusal_attributes, unvalidated_party}

module _ (old : State) (from : SocketAddr) (bytes : List ℕ) (now : ℕ) (stream : Stream) (one : NamesOne old.auth (claimed bytes)) where
  -- The authenticator that validates the request.
  abbrev ready : Server
  ready = refreshed old.auth from now stream

  still_one : NamesOne ready (claimed bytes)
  still_one = names_one_still old.auth from now stream (claimed bytes) one

  -- Two values of one `Some` are equal.
  abbrev held_same : (x y : List ℕ) (o : Option (List ℕ)) → o ≡ Some x → o ≡ Some y → x ≡ y
  held_same x y o first second = inside (sym first ∙ second)

  -- ---- a challenge

  abbrev challenge_text : LongTermServerAuthError → List ℕ → List ℕ
  challenge_text error nonce = message_text (error_type bytes) (number_at bytes) (refusal_attributes error (unvalidated_party old.auth nonce))

  both_challenged : (reply again : List ℕ) (left other : State) → IsChallenge old from bytes now stream reply left → IsChallenge old from bytes now stream again other → (reply ≡ again) × (left ≡ other)
  both_challenged reply again left other a b =
      let error : a.error ≡ b.error = refused_same ready from bytes a.error b.error still_one a.judged.refused b.judged.refused in
      let auth : left.auth ≡ other.auth = a.judged.after ∙ sym b.judged.after in
      let nonce : a.nonce ≡ b.nonce = held_same a.nonce b.nonce (nonce_at other.auth from) (ap (λ (s : Server). nonce_at s from) (sym auth) ∙ a.stored) b.stored in
      let grants : left.grants ≡ other.grants = a.granted ∙ sym b.granted in (
        a.text ∙ ap (λ (e : LongTermServerAuthError). challenge_text e a.nonce) error ∙ ap (challenge_text b.error) nonce ∙ sym b.text,
        λ i. record { auth = auth i; grants = grants i },
      )

  -- ---- a verdict

  module _ (decision : Decision) where
    abbrev verdict_text : List ℕ → List ℕ → IntegrityAlgorithm → List ℕ
    verdict_text name password algorithm =
        signed_text (reply_type bytes (verdict_on bytes decision)) (number_at bytes) (reply_attributes bytes from (verdict_on bytes decision)) (user_key old.auth.realm name password algorithm) algorithm

    abbrev stored_as : List ℕ → IntegrityAlgorithm → Server
    stored_as name algorithm = with_outcome ready from (Some (record { name = name; algorithm = algorithm }))

    both_decided : (reply again : List ℕ) (left other : State) → IsVerdict old from bytes now stream (verdict_on bytes decision) reply left → IsVerdict old from bytes now stream (verdict_on bytes decision) again other → (reply ≡ again) × (left ≡ other)
    both_decided reply again left other a b =
        let whose = accepted_same ready from bytes a.algorithm b.algorithm a.name b.name still_one a.judged.accepts b.judged.accepts in
        let names : a.name ≡ b.name = whose.0 in
        let algorithms : a.algorithm ≡ b.algorithm = whose.1 in
        let passwords : a.password ≡ b.password = held_same a.password b.password (map.get old.auth.users b.name) (ap (map.get old.auth.users) (sym names) ∙ a.present) b.present in
        let text : verdict_text a.name a.password a.algorithm ≡ verdict_text b.name b.password b.algorithm = λ i. verdict_text (names i) (passwords i) (algorithms i) in
        let server : stored_as a.name a.algorithm ≡ stored_as b.name b.algorithm = λ i. stored_as (names i) (algorithms i) in
        let auth : left.auth ≡ other.auth = a.judged.after ∙ server ∙ sym b.judged.after in
        let grants : left.grants ≡ other.grants = a.granted ∙ sym b.granted in
        (a.text ∙ text ∙ sym b.text, λ i. record { auth = auth i; grants = grants i })

    never_two : {A : Type 0} (reply again : List ℕ) (left other : State) → IsChallenge old from bytes now stream reply left → IsVerdict old from bytes now stream (verdict_on bytes decision) again other → A
    never_two reply again left other a b = absurd (never_both ready from bytes b.algorithm b.name a.error still_one b.judged.accepts a.judged.refused)

  -- Two replies to one request are equal, and so are the states that they leave.
  pub answer_same : (decision : Decision) (reply again : List ℕ) (left other : State) → IsAnswer old from bytes now stream decision reply left → IsAnswer old from bytes now stream decision again other
      → (reply ≡ again) × (left ≡ other)
  answer_same decision reply again left other (inl a) (inl b) = both_challenged reply again left other a b
  answer_same decision reply again left other (inl a) (inr b) = never_two decision reply again left other a b
  answer_same decision reply again left other (inr a) (inl b) = never_two decision again reply other left b a
  answer_same decision reply again left other (inr a) (inr b) = both_decided decision reply again left other a b
