-- The length of a reply: it can always be signed.
use Rattle.std.specs.Prelude.{◌≡◌, ℕ, ◌+◌, ◌≤◌, ◌==◌, Bool, true, false, if◌then◌else◌, List, [], ◌∷◌, length, None}
use Rattle.std.specs.declared.net.socket_addr.SocketAddr.{SocketAddr}
use Rattle.std.proofs.Common.{refl, sym, ap, subst, ◌∙◌, arith}
use Rattle.std.specs.List.{AllByRecursion}
use Rattle.std.proofs.lemmas.Bool.{le-ltb}
use Rattle.std.proofs.lemmas.List.{length-append}
use Rattle.byteorder.specs.Endian.{big_bytes}
use Rattle.stun_types_wire.specs.declared.algorithm.IntegrityAlgorithm.{IntegrityAlgorithm}
use Rattle.stun_types_wire.specs.declared.algorithm.IntegrityAlgorithm.TheVariants.{Sha1, Sha256, Sha512}
use Rattle.stun_types_wire.specs.Attributes.{Attr, attr_size}
use Rattle.stun_types_wire.specs.Text.{header_text, attribute_text, body_text, message_text}
use Rattle.stun_types_write.specs.Drafts.{Draft, empty, none_ended}
use Rattle.stun_types_add.specs.Calls.{IsComposed, IsOrdinary}
use Rattle.stun_types_add.proofs.Adds.{length-attribute_text}
use Rattle.stun_types_attributes.specs.Addresses.{address_value}
use Rattle.stun_types_attributes.specs.Xor.{xor_bytes, xored, octets_mask}
use Rattle.stun_types_attributes.specs.ErrorCodes.{CodeAndOther, reason_for, reason_of}
use Rattle.stun_types_wire.specs.Registry.{longest_text, xor_mapped_address_kind}
use Rattle.stun_types_add.specs.Integrity.Signing.{order_refusal, signing_refusal}
use Rattle.stun_types_message.specs.Objections.{error_attribute}
use Rattle.turn_desk_core.specs.Replies.{IsReply, allocated_attributes, failure_attributes, relayed_attribute}
use Rattle.turn_types_attributes.specs.TurnRegistry.{lifetime_kind}

-- The result of an XOR is no longer than its mask.
xor_short : (bytes mask : List ℕ) → length (xor_bytes bytes mask) ≤ length mask
xor_short [] mask = omega arith
xor_short (b ∷ bytes) [] = omega arith
xor_short (b ∷ bytes) (m ∷ mask) = let shorter = xor_short bytes mask in omega (arith, shorter)

-- An XORed address has at most twenty bytes.
pub xored_short : (number : ℕ) (value : List ℕ) → length (xored number value) ≤ 20
unfolding octets_mask
xored_short number value = let short = xor_short value (0 ∷ 0 ∷ 0x21 ∷ 0x12 ∷ octets_mask number) in omega (arith, short)

-- ---- reasons

either-short : (choice : Bool) (one other : List ℕ) → length one ≤ longest_text → length other ≤ longest_text → length (if choice then one else other) ≤ longest_text
either-short true one other h k = h
either-short false one other h k = k

-- The standard reason of a code is short.
pub reason-short : (code : ℕ) → length (reason_for code) ≤ longest_text
reason-short code =
    either-short (code == 300) _ _ (omega arith) (
    either-short (code == 400) _ _ (omega arith) (
    either-short (code == 401) _ _ (omega arith) (
    either-short (code == 403) _ _ (omega arith) (
    either-short (code == 420) _ _ (omega arith) (
    either-short (code == 437) _ _ (omega arith) (
    either-short (code == 438) _ _ (omega arith) (
    either-short (code == 440) _ _ (omega arith) (
    either-short (code == 441) _ _ (omega arith) (
    either-short (code == 442) _ _ (omega arith) (
    either-short (code == 443) _ _ (omega arith) (
    either-short (code == 446) _ _ (omega arith) (
    either-short (code == 447) _ _ (omega arith) (
    either-short (code == 486) _ _ (omega arith) (
    either-short (code == 487) _ _ (omega arith) (
    either-short (code == 500) _ _ (omega arith) (
    either-short (code == 508) _ _ (omega arith) (
    omega arith)))))))))))))))))

-- ---- the length of a message's text

pub text-length : (kind number : ℕ) (all : List Attr) → length (message_text kind number all) ≡ 20 + length (body_text all)
unfolding message_text header_text
text-length kind number all = omega arith

pub body-length : (all : List Attr) (a : Attr) → length (body_text (a ∷ all)) ≡ attr_size a + length (body_text all)
unfolding body_text
body-length all a = omega (arith, length-append (attribute_text a) (body_text all), length-attribute_text a)

pub no_body : length (body_text []) ≡ 0
unfolding body_text
no_body = refl

-- ---- what can be signed

-- A short message to which no final attribute was added can be signed.
signable : (reply : Draft) → reply.ended ≡ none_ended → reply.limit ≡ None → length reply.bytes ≤ 4096 → (algorithm : IntegrityAlgorithm) → signing_refusal reply algorithm algorithm ≡ None
unfolding signing_refusal order_refusal
signable reply none free short Sha1 = rw (none, free, le-ltb (20 + 65_535) (length reply.bytes + 24) (omega (arith, short))) refl
signable reply none free short Sha256 = rw (none, free, le-ltb (20 + 65_535) (length reply.bytes + 36) (omega (arith, short))) refl
signable reply none free short Sha512 = rw (none, free, le-ltb (20 + 65_535) (length reply.bytes + 68) (omega (arith, short))) refl

-- The attributes of an ALLOCATE success response, except the relayed addresses.
abbrev pub lifetime_of : ℕ → Attr
lifetime_of lifetime = record { kind = lifetime_kind; value = big_bytes 4 lifetime }

abbrev pub mapped_of : ℕ → SocketAddr → Attr
mapped_of number from = record { kind = xor_mapped_address_kind; value = xored number (address_value from) }

pub end-length : (number lifetime : ℕ) (from : SocketAddr) → length (body_text (lifetime_of lifetime ∷ mapped_of number from ∷ [])) ≤ 32
end-length number lifetime from =
    let one = body-length (mapped_of number from ∷ []) (lifetime_of lifetime) in
    let two = body-length [] (mapped_of number from) in
    let none = no_body in
    let short = xored_short number (address_value from) in
    omega (arith, one, two, none, short)

pub relayed-length : (number : ℕ) (relayed : SocketAddr) (rest : List Attr) → length (body_text (relayed_attribute number relayed ∷ rest)) ≤ 24 + length (body_text rest)
relayed-length number relayed rest =
    let one = body-length rest (relayed_attribute number relayed) in
    let short = xored_short number (address_value relayed) in
    omega (arith, one, short)

pub allocated-length : (kind number lifetime : ℕ) (from : SocketAddr) (relayed : List SocketAddr) → length relayed ≤ 2 → length (message_text kind number (allocated_attributes number relayed lifetime from)) ≤ 4096
allocated-length kind number lifetime from [] few =
    let text = text-length kind number (allocated_attributes number [] lifetime from) in
    let end = end-length number lifetime from in
    omega (arith, text, end)
allocated-length kind number lifetime from (a ∷ []) few =
    let text = text-length kind number (allocated_attributes number (a ∷ []) lifetime from) in
    let end = end-length number lifetime from in
    let one = relayed-length number a (lifetime_of lifetime ∷ mapped_of number from ∷ []) in
    omega (arith, text, end, one)
allocated-length kind number lifetime from (a ∷ b ∷ []) few =
    let text = text-length kind number (allocated_attributes number (a ∷ b ∷ []) lifetime from) in
    let end = end-length number lifetime from in
    let one = relayed-length number b (lifetime_of lifetime ∷ mapped_of number from ∷ []) in
    let two = relayed-length number a (relayed_attribute number b ∷ lifetime_of lifetime ∷ mapped_of number from ∷ []) in
    omega (arith, text, end, one, two)
allocated-length kind number lifetime from (a ∷ b ∷ c ∷ rest) few = absurd (omega (arith, few))

pub failure-length : (kind number code : ℕ) → length (message_text kind number (failure_attributes code)) ≤ 4096
failure-length kind number code =
    let reason = reason-short code in
    let text = text-length kind number (failure_attributes code) in
    let body = body-length [] (error_attribute code) in
    let none = no_body in
    omega (arith, text, body, none, reason)

-- ---- ordinary attributes

error_ordinary : (code : ℕ) → IsOrdinary (error_attribute code)
error_ordinary code = let reason = reason-short code in record { fits = record { kind = omega arith; value = omega (arith, reason) }; ordinary = refl }

relayed_ordinary : (number : ℕ) (addr : SocketAddr) → IsOrdinary (relayed_attribute number addr)
relayed_ordinary number addr = let short = xored_short number (address_value addr) in record { fits = record { kind = omega arith; value = omega (arith, short) }; ordinary = refl }

pub lifetime_ordinary : (lifetime : ℕ) → IsOrdinary (lifetime_of lifetime)
lifetime_ordinary lifetime = record { fits = record { kind = omega arith; value = omega arith }; ordinary = refl }

mapped_ordinary : (number : ℕ) (addr : SocketAddr) → IsOrdinary (mapped_of number addr)
mapped_ordinary number addr = let short = xored_short number (address_value addr) in record { fits = record { kind = omega arith; value = omega (arith, short) }; ordinary = refl }

allocated_ordinary : (number lifetime : ℕ) (from : SocketAddr) (relayed : List SocketAddr) → length relayed ≤ 2 → AllByRecursion IsOrdinary (allocated_attributes number relayed lifetime from)
allocated_ordinary number lifetime from [] few = (lifetime_ordinary lifetime, (mapped_ordinary number from, tt))
allocated_ordinary number lifetime from (a ∷ []) few = (relayed_ordinary number a, (lifetime_ordinary lifetime, (mapped_ordinary number from, tt)))
allocated_ordinary number lifetime from (a ∷ b ∷ []) few = (relayed_ordinary number a, (relayed_ordinary number b, (lifetime_ordinary lifetime, (mapped_ordinary number from, tt))))
allocated_ordinary number lifetime from (a ∷ b ∷ c ∷ rest) few = absurd (omega (arith, few))

-- ---- replies

pub reply_of : (kind number : ℕ) (attributes : List Attr) (old reply : Draft) → old ≡ empty [] None → IsComposed kind number attributes old reply → AllByRecursion IsOrdinary attributes → length (message_text kind number attributes) ≤ 4096 → IsReply kind number attributes reply
reply_of kind number attributes old reply new composed lawful short = record {
  composed = subst (λ (d : Draft). IsComposed kind number attributes d reply) new composed;
  lawful = lawful;
  signable = signable reply composed.ended (composed.limit ∙ ap (λ (d : Draft). d.limit) new) (subst (λ (n : ℕ). n ≤ 4096) (sym (ap length composed.text)) short);
}

pub failure_reply : (kind number code : ℕ) (old reply : Draft) → old ≡ empty [] None → IsComposed kind number (failure_attributes code) old reply → IsReply kind number (failure_attributes code) reply
failure_reply kind number code old reply new composed = reply_of kind number (failure_attributes code) old reply new composed (error_ordinary code, tt) (failure-length kind number code)

pub allocated_reply : (kind number lifetime : ℕ) (from : SocketAddr) (relayed : List SocketAddr) (old reply : Draft) → old ≡ empty [] None → length relayed ≤ 2 → IsComposed kind number (allocated_attributes number relayed lifetime from) old reply → IsReply kind number (allocated_attributes number relayed lifetime from) reply
allocated_reply kind number lifetime from relayed old reply new few composed = reply_of kind number (allocated_attributes number relayed lifetime from) old reply new composed (allocated_ordinary number lifetime from relayed few) (allocated-length kind number lifetime from relayed few)

-- A code that is built without a reason gets its standard reason.
pub default_reason : (reported : CodeAndOther) (code : ℕ) → reported.code ≡ code → reported.reason ≡ None → reason_of reported ≡ reason_for code
default_reason reported code is reason = rw (reason, is) refl
