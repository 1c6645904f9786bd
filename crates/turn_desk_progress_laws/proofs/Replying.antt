-- What is signed, by one algorithm, and what is not.
use Rattle.std.proofs.Common.{◌≡◌, ℕ, true, false, List, ◌++◌, ◌∷◌, Some, None, refl, sym, ap, ◌∙◌, inl, inr}
use Rattle.std.specs.declared.net.socket_addr.SocketAddr.{SocketAddr}
use Rattle.turn_desk_core.specs.StunTypesWire.Grammar.{visible}
use Rattle.turn_desk_core.specs.StunTypesWire.declared.algorithm.IntegrityAlgorithm.{IntegrityAlgorithm}
use Rattle.turn_client_proto_messages.specs.StunTypesIntegrity.Integrity.{Validates}
use Rattle.turn_desk_core.specs.StunTypesMessage.MessageValidation.{last_algorithm}
use Rattle.turn_desk_core.specs.StunTypesWire.Registry.{stale_nonce_code, unauthorized_code}
use Rattle.turn_desk_core.proofs.StunTypesMessage.Validating.{none_validates, validates_last}
use Rattle.turn_client_proto_api.specs.StunProtoAuth.Addition.{attrs, nonce_of, realm_of}
use Rattle.turn_client_proto_api.specs.StunProtoAuth.Nonce.{features_in}
use Rattle.turn_desk_core.specs.StunProtoVerify.declared.error.LongTermServerAuthError.{LongTermServerAuthError}
use Rattle.turn_desk_core.specs.StunProtoVerify.declared.error.LongTermServerAuthError.TheVariants.{BadRequest, StaleNonce}
use Rattle.turn_desk_core.specs.StunProtoServer.ServerSigning.{Party, list_for}
use Rattle.turn_desk_world_laws.specs.World.Desks.{words_of}
use Rattle.turn_desk_core.specs.Replies.{failure_attributes}
use Rattle.turn_desk_core.specs.declared.decision.Decision.{Decision}
use Rattle.turn_desk_core.specs.State.{State}
use Rattle.turn_client_proto_messages.specs.TurnRuns.StunWire.{AreValid}
use Rattle.turn_desk_core.specs.Steps.{IsAnswer, challenge_attributes, refusal_attributes, unvalidated_party}

-- ---- what is not signed

-- The message shows no integrity attribute.
abbrev pub IsUnsigned : List ℕ → Type 0
IsUnsigned bytes = last_algorithm (visible bytes) ≡ None

pub never_valid : {A : Type 0} (bytes key text : List ℕ) (a : IntegrityAlgorithm) → IsUnsigned bytes → AreValid bytes key a text → A
never_valid bytes key text a unsigned valid = absurd (none_validates bytes key a text unsigned valid.validates)

code_unsigned : (code : ℕ) (party : Party) → last_algorithm (challenge_attributes code party) ≡ None
unfolding last_algorithm
code_unsigned code party = elim (features_in party.nonce).password_algorithms as (λ b. last_algorithm (failure_attributes code ++ attrs (realm_of party.realm ∷ nonce_of party.nonce ∷ list_for b party.algorithms)) ≡ None) [
  | true ↦ refl
  | false ↦ refl
]

refusal_unsigned : (error : LongTermServerAuthError) (party : Party) → last_algorithm (refusal_attributes error party) ≡ None
unfolding last_algorithm
refusal_unsigned BadRequest party = refl
refusal_unsigned StaleNonce party = code_unsigned stale_nonce_code party
refusal_unsigned _ party = code_unsigned unauthorized_code party

-- A server core's reply to an unsigned request shows none either: it is a challenge.
pub challenge_unsigned : (old new : State) (from : SocketAddr) (bytes reply : List ℕ) (now : ℕ) (seed : List ℕ) (decision : Decision) → IsUnsigned bytes → IsAnswer old from bytes now (words_of seed) decision reply new → IsUnsigned reply
challenge_unsigned old new from bytes reply now seed decision unsigned (inl is) = ap last_algorithm is.read.shows ∙ refusal_unsigned is.error (unvalidated_party old.auth is.nonce)
challenge_unsigned old new from bytes reply now seed decision unsigned (inr v) =
    let clash : None ≡ Some v.algorithm = sym unsigned ∙ v.judged.accepts.judged.last in
    absurd (Prim.cc clash)

-- ---- what is

-- A message validates by exactly one algorithm: that of its last integrity attribute.
pub one_algorithm : (bytes key other text covered : List ℕ) (a b : IntegrityAlgorithm) → Validates bytes key a text → Validates bytes other b covered → a ≡ b
one_algorithm bytes key other text covered a b one two =
    let same : Some a ≡ Some b = sym (validates_last bytes key a text one) ∙ validates_last bytes other b covered two in
    Prim.cc same
