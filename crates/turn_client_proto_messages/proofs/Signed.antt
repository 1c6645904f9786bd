-- A signed request is valid under the key of the challenge that the client remembers.
use Rattle.std.proofs.Common.{◌≡◌, ℕ, ◌<◌, ◌≤◌, ◌^◌, Bool, true, false, if◌then◌else◌, List, [], ◌∷◌, ◌++◌, length, map, Option, Some, sym, ap, ◌∙◌, subst, append_assoc}
use Rattle.std.specs.List.{AllByRecursion}
use Rattle.stun_types_wire.specs.Attributes.{Attr}
use Rattle.stun_types_add.specs.Calls.{Add, Integrity, Ordinary, IsWritten, after_calls, attributes_of}
use Rattle.stun_types_integrity.specs.Credentials.{Key}
use Rattle.stun_types_integrity.specs.Integrity.{Validates}
use Rattle.stun_types_wire.specs.declared.class.MessageClass.TheVariants.{Request}
use Rattle.stun_types_integrity.specs.Signing.{text_to_sign}
use Rattle.stun_types_wire.specs.Text.{message_text}
use Rattle.stun_types_message.specs.UnsignedCalls.{IsNoIntegrity}
use Rattle.stun_types_message.proofs.Composed.{calls_validate, written_text}
use Rattle.stun_proto_client.specs.Digests.{IsRight}
use Rattle.stun_proto_auth.specs.Addition.{Addition, PartOf, calls_of, calls_of_parts, no_addition}
use Rattle.stun_proto_client.specs.Client.{Client, Standing, standing_key, standing_of}
use Rattle.stun_proto_client.specs.ClientSigning.{addition_by, addition_for, hides_name, request_parts}
use Rattle.turn_client_proto_messages.specs.Composing.{IsSmall}
use Rattle.turn_client_proto_messages.specs.Requests.{addition_of, described, fingerprint_calls, is_signed, request_attributes, request_text, request_type, software_parts}
use Rattle.turn_client_proto_messages.specs.ShortTexts.{HasShortTexts}
use Rattle.turn_client_proto_messages.specs.ReportedRequests.{IsLawfulRequest}
use Rattle.turn_client_proto_messages.specs.declared.request.TurnRequest.{TurnRequest}
use Rattle.turn_client_proto_messages.proofs.Reading.{all_written, attributes_few, attributes_small, header_alone, lawful_both, marks_lawful, short_lawful, small_lawful, type_small}
use Rattle.turn_client_proto_messages.proofs.Signing.{IsShortAddition, addition_short}

-- What a client adds under a challenge: SOFTWARE, if it is set, a user name, the challenge's texts, its choice,
-- and the integrity attribute.
abbrev pub standing_adds : Client → Standing → Addition
standing_adds client s = record {
  parts = software_parts client.style.software ++ request_parts (hides_name client.anonymous_username s.challenge.nonce) s;
  signer = Some (standing_key s);
}

-- This is what is added to a signed request.
pub adds_of : (client : Client) (request : TurnRequest) (s : Standing) → is_signed request ≡ true → standing_of client ≡ Some s → addition_of client request ≡ standing_adds client s
adds_of client request s signed occurs =
    ap (λ (b : Bool). described client.style.software (if b then addition_for client Request else no_addition)) signed
    ∙ ap (λ (o : Option Standing). described client.style.software (addition_by client.anonymous_username o Request)) occurs

marks_no_integrity : (marks : Bool) → AllByRecursion IsNoIntegrity (fingerprint_calls marks)
marks_no_integrity true = (tt, tt)
marks_no_integrity false = tt

-- A message of short attributes and short parts, maybe with FINGERPRINT, is valid under the key that signs it.
whole_right : (kind number : ℕ) (attributes : List Attr) (parts : List PartOf) (key : Key) (marks : Bool) → kind < 2 ^ 14 → number < 2 ^ 96 → AllByRecursion IsSmall attributes → length attributes ≤ 32
    → IsShortAddition (record { parts = parts; signer = Some key })
    → IsRight (message_text kind number (attributes_of kind number (map Ordinary attributes ++ (calls_of (record { parts = parts; signer = Some key }) ++ fingerprint_calls marks)))) key
whole_right kind number attributes parts key marks k n small few short =
    let made : Addition = record { parts = parts; signer = Some key } in
    let own = map Ordinary attributes in
    let adds = calls_of_parts parts in
    let earlier = own ++ adds in
    let following = fingerprint_calls marks in
    let sign = Integrity key.algorithm key.bytes ∷ [] in
    let calls = own ++ (calls_of made ++ following) in
    let draft = after_calls calls (header_alone kind number) in
    let covered = text_to_sign key.algorithm (message_text kind number (attributes_of kind number earlier)) in
    let written = all_written kind number attributes made marks k small few short in
    let split : calls ≡ earlier ++ Integrity key.algorithm key.bytes ∷ following =
    ap (λ (l : List Add). own ++ l) (append_assoc adds sign following) ∙ sym (append_assoc own adds (Integrity key.algorithm key.bytes ∷ following)) in
    let each = lawful_both earlier (Integrity key.algorithm key.bytes ∷ following) (lawful_both own adds (small_lawful attributes small) (short_lawful parts short.each)) (tt, marks_lawful marks) in
    let right = calls_validate kind number earlier following key.algorithm key.bytes draft k n each (subst (λ (l : List Add). IsWritten kind number l draft) split written) (marks_no_integrity marks) in
    record {
      text = covered;
      validates = subst (λ (b : List ℕ). Validates b key.bytes key.algorithm covered) (written_text kind number calls draft written) right;
    }

pub valid_law : (client : Client) (request : TurnRequest) (number : ℕ) (s : Standing) → HasShortTexts client → IsLawfulRequest request → number < 2 ^ 96 → is_signed request ≡ true → standing_of client ≡ Some s
    → IsRight (request_text client request number) (standing_key s)
unfolding request_text
valid_law client request number s short lawful n signed occurs =
    let kind = request_type request in
    let own = request_attributes request number in
    let marks = client.style.fingerprint in
    let is = adds_of client request s signed occurs in
    subst (λ (a : Addition). IsRight (message_text kind number (attributes_of kind number (map Ordinary own ++ (calls_of a ++ fingerprint_calls marks)))) (standing_key s)) (sym is)
    (whole_right kind number own (standing_adds client s).parts (standing_key s) marks (type_small request) n (attributes_small request number) (attributes_few request number lawful)
    (subst IsShortAddition is (addition_short client request short)))
