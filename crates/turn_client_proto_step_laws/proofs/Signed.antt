-- What a client accepts validates under its key: in the stored realm, by the algorithm that it chose.
use Rattle.std.proofs.Common.{◌≡◌, ℕ, List, [], ◌∷◌, Option, Some, None, Ok, refl, sym, ap, ◌∙◌, subst, inl}
use Rattle.turn_client_proto_timers.specs.StunTypesIntegrity.Credentials.{NameAndPassword}
use Rattle.turn_client_proto_timers.specs.StunTypesWire.Grammar.{refusal}
use Rattle.turn_client_proto_timers.specs.StunTypesWire.Headers.{AreBytes}
use Rattle.turn_client_proto_timers.specs.StunTypesIntegrity.Integrity.{Validates}
use Rattle.turn_client_proto_timers.specs.StunTypesWire.declared.algorithm.IntegrityAlgorithm.{IntegrityAlgorithm}
use Rattle.turn_client_proto_recv.specs.StunProtoClient.Client.{Challenge, Standing, standing_by}
use Rattle.turn_client_proto_recv.specs.StunProtoClient.Client as signers
use Rattle.turn_client_proto_recv.specs.StunProtoClient.declared.validation.LongTermClientValidation.TheVariants.{Validated}
use Rattle.turn_client_proto_timers.specs.TurnRuns.Steps.{Arrives}
use Rattle.turn_client_proto_timers.specs.TurnRuns.StunWire.{key_in, decoded_by}
use Rattle.turn_client_proto_timers.specs.Messages.Judging.{IsJudged}
use Rattle.turn_client_proto_step_laws.specs.Adding.{IsSignedFor}
use Rattle.turn_client_proto_step_laws.specs.ClientWords.{choice_in, client_words, realm_in}
use Rattle.turn_client_proto_step_laws.specs.RunClient.{Client}
use Rattle.turn_client_proto_step_laws.specs.RunSteps.{call_of}
use Rattle.turn_client_proto_step_laws.specs.Sound.{CanAsk}
use Rattle.turn_client_proto_step_laws.proofs.Agents.{message_listed}
use Rattle.turn_client_proto_step_laws.proofs.Lists.{inside}
use Rattle.turn_client_proto_step_laws.proofs.Realms.{IsGoing}

-- The credentials and the challenge of a client that has both.
record AreParts (account : Option NameAndPassword) (challenge : Option Challenge) (s : Standing) : Type 0 where
  has : account ≡ Some s.account
  keeps : challenge ≡ Some s.challenge

parts : (account : Option NameAndPassword) (challenge : Option Challenge) (s : Standing) → standing_by account challenge ≡ Some s → AreParts account challenge s
parts None challenge s is = absurd (Prim.cc is)
parts (Some account) None s is = absurd (Prim.cc is)
parts (Some account) (Some challenge) s is =
    let same : record { account = account; challenge = challenge } ≡ s = Prim.cc is in
    record { has = ap (λ (t : Standing). Some t.account) same; keeps = ap (λ (t : Standing). Some t.challenge) same }

pub validated_own : (c : Client) (signer : signers.Client) (bytes : List ℕ) (algorithm : IntegrityAlgorithm) → AreBytes bytes → CanAsk c → IsGoing c.core.phase
    → IsJudged c.core.auth bytes (Ok (Validated algorithm)) signer → IsSignedFor c bytes
validated_own c signer bytes algorithm are_bytes can going v =
    let both = parts c.core.auth.account c.core.auth.challenge v.standing v.occurs in
    let same : v.standing.account ≡ c.credentials = inside (sym both.has ∙ can.account) in
    let challenge = v.standing.challenge in
    record {
      challenge = challenge;
      stored = going c.core.auth.challenge ∙ both.keeps;
      text = v.right.text;
      valid = record {
        are_bytes = are_bytes;
        validates = subst (λ (a : NameAndPassword). Validates bytes (key_in a challenge.realm challenge.choice) challenge.choice v.right.text) same v.right.validates;
      };
    }

-- A message that validates arrives in a call, in the sense of a run.
pub signed_arrives : (c : Client) (bytes : List ℕ) (after : Client) → refusal bytes ≡ None → IsSignedFor c bytes → Arrives client_words (call_of c (bytes ∷ []) None [] after) bytes (decoded_by bytes)
signed_arrives c bytes after message own = record {
  handled = inl refl;
  shows = message_listed bytes message;
  key = key_in c.credentials own.challenge.realm own.challenge.choice;
  algorithm = own.challenge.choice;
  own = (own.challenge.realm, ap realm_in own.stored, ap choice_in own.stored, refl);
  text = own.text;
  valid = own.valid;
}
