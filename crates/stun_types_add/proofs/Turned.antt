-- 32-bit numbers and their four bytes, also with the XOR of FINGERPRINT.
use Rattle.std.proofs.Common.{◌≡◌, ℕ, ◌^◌, ◌<◌, List, [], length, slice_index, bit_xor, None, true, nat_eq, bytes_eq, sym, ap, ◌∙◌, arith, inl, inr}
use Rattle.std.specs.Int.Bits.{xor_self, xor_assoc, xor_zero_r}
use Rattle.std.proofs.lemmas.Nat.{be_bytes_4, xor_lt}
use Rattle.std.proofs.lemmas.Bool.{cases_Bool, eqb-true, eq-eqb, false_from_ne_true, true≢false}
use Rattle.std.proofs.lemmas.Slice.Eq.{bytes_eq-Decides}
use Rattle.byteorder.specs.Endian.{big_bytes, big_number}
use Rattle.byteorder.specs.Numbers.{big_number-reads_back}
use Rattle.stun_types_integrity.specs.Write.Adding.{attr_of}
use Rattle.stun_types_integrity.specs.Write.ValueReading.{value_refusal}
use Rattle.stun_types_integrity.proofs.Write.Values.{value_is_accepted}
use Rattle.stun_types_integrity.specs.Wire.Registry.{fingerprint_mask}
use Rattle.stun_types_add.specs.FingerprintValues.{turned_bytes}
use Rattle.stun_types_add.specs.FingerprintValues.{crc_bytes}
use Rattle.stun_types_integrity.specs.Wire.Fingerprints.{fingerprint_value}

-- Encoding the number decoded from four bytes gives these bytes.
pub bytes_again : (bytes : List ℕ) (n : ℕ) → length bytes ≡ 4 → ((k : ℕ) → slice_index bytes k < 256) → n ≡ big_number 4 bytes → big_bytes 4 n ≡ bytes
bytes_again bytes n four small decoded = be_bytes_4 bytes n four small (omega arith)

-- Decoding the bytes of a number gives the number.
pub number_again : (n : ℕ) → n < 2 ^ 32 → big_number 4 (big_bytes 4 n) ≡ n
number_again n small = big_number-reads_back 4 n [] small

-- Applying the XOR twice gives the number.
pub turned_again : (n : ℕ) → bit_xor (bit_xor n fingerprint_mask) fingerprint_mask ≡ n
turned_again n = xor_assoc n fingerprint_mask fingerprint_mask ∙ ap (λ x. bit_xor n x) (xor_self fingerprint_mask) ∙ xor_zero_r n

-- Decoding the XORed bytes of a number and applying the XOR gives the number.
pub number_from_turned : (n : ℕ) → n < 2 ^ 32 → bit_xor (big_number 4 (turned_bytes n)) fingerprint_mask ≡ n
number_from_turned n small =
    ap (λ x. bit_xor x fingerprint_mask) (number_again (bit_xor n fingerprint_mask) (xor_lt 32 n fingerprint_mask small (omega arith))) ∙ turned_again n

-- Two numbers with the same XORed bytes are equal.
pub same_number : (m n : ℕ) → m < 2 ^ 32 → n < 2 ^ 32 → turned_bytes m ≡ turned_bytes n → m ≡ n
same_number m n m_small n_small h =
    sym (number_from_turned m m_small) ∙ ap (λ (bytes : List ℕ). bit_xor (big_number 4 bytes) fingerprint_mask) h ∙ number_from_turned n n_small

-- Two values are equal exactly if their numbers are.
pub same_by_number : (value : List ℕ) (n m : ℕ) → n < 2 ^ 32 → m < 2 ^ 32 → turned_bytes n ≡ value → nat_eq n m ≡ bytes_eq value (turned_bytes m)
same_by_number value n m n_small m_small value-is =
    let decides = bytes_eq-Decides value (turned_bytes m) in
    elim (cases_Bool (nat_eq n m)) [
      | inl same ↦ same ∙ sym (decides.1 (sym value-is ∙ ap turned_bytes (eqb-true n m same)))
      | inr other ↦
          let differ : bytes_eq value (turned_bytes m) ≡ true → ⊥ =
          λ equal. true≢false (sym (eq-eqb n m (same_number n m n_small m_small (value-is ∙ decides.0 equal))) ∙ other) in
          other ∙ sym (false_from_ne_true (bytes_eq value (turned_bytes m)) differ)
    ]

-- Reading does not reject the four XORed bytes of a number.
pub number_is_accepted : (kind n : ℕ) → value_refusal kind 4 4 (attr_of kind (turned_bytes n)) ≡ None
number_is_accepted kind n = value_is_accepted kind 4 4 (turned_bytes n) (omega arith) (omega arith)

-- A group of definitions for proofs: unfolding it unfolds both that are named on its `unfolding` line.
unfoldable pub value_bytes : Type 0
unfolding crc_bytes fingerprint_value
value_bytes = Unit {0}

-- A written number is accepted and is read back.
pub ruleset numbers = (number_is_accepted, same_number)
