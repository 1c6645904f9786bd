use Rattle.std.proofs.Common.{◌<◌, ◌^◌, ℕ, arith, refl, ap}
use Rattle.turn_client_proto_messages.specs.StunTypesWire.Types.{method_of}
use Rattle.turn_client_proto_handshake_laws.specs.Choosing.{Choice, HasTextName, IsChoice, standing_by}
use Rattle.turn_client_proto_messages.specs.ReadTexts.{HasReadTexts}
use Rattle.turn_client_proto_messages.specs.ShortTexts.{HasShortTexts}
use Rattle.turn_client_proto_handshake_laws.specs.Sent.{Beginning, HasRoom}
use Rattle.turn_client_proto_progress_laws.specs.Refreshed.{IsSignedRefresh, refresh_for, signed_by}
use Rattle.turn_client_proto_progress_laws.proofs.renewals.refreshes_are_signed.Goals as goal

pub returns-clause-request : goal.returns-clause-request
returns-clause-request c = λ b choice number room text chosen fits. by b choice number room text chosen fits
  where
    by : (b : Beginning) (choice : Choice) (number : ℕ) → HasRoom b.config → HasTextName b.config → IsChoice b choice → number < 2 ^ 96 → IsSignedRefresh b choice number
    by b choice number room text chosen fits =
        let s = c.signed_allocates_answer.ensures.short b choice room chosen in
        let r = c.signed_allocates_answer.ensures.read b choice text chosen in
        let short : HasShortTexts (signed_by b choice) = record { username = s.username; next = s.next; software = s.software; challenge = s.challenge } in
        let reads : HasReadTexts (signed_by b choice) = record { username = r.username; next = r.next; challenge = r.challenge; known = r.known } in
        let laws = c.proof_requests_are_read.ensures in
        record {
          message = laws.message (signed_by b choice) refresh_for number short (omega arith) fits;
          request = laws.request (signed_by b choice) refresh_for number;
          number_is = laws.number (signed_by b choice) refresh_for number short (omega arith) fits;
          method = ap method_of (laws.read (signed_by b choice) refresh_for number short (omega arith) fits).kind;
          reported = laws.reported (signed_by b choice) refresh_for number short (omega arith) fits tt;
          valid = laws.valid (signed_by b choice) refresh_for number (standing_by b choice) short (omega arith) fits refl refl;
          claims = c.signed_requests_claim.ensures (signed_by b choice) refresh_for number (standing_by b choice) short reads (omega arith) fits refl refl;
        }

pub returns-clause-occurs : goal.returns-clause-occurs
returns-clause-occurs c = λ b choice. refl
