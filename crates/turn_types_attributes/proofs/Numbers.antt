-- 32-bit numbers and their four bytes.
use Rattle.std.proofs.Common.{◌≡◌, ℕ, ◌^◌, ◌<◌, List, [], length, slice_index, None, sym, ap, ◌∙◌, arith}
use Rattle.std.proofs.lemmas.Nat.{be_bytes_4}
use Rattle.byteorder.specs.Endian.{big_bytes, big_number}
use Rattle.byteorder.specs.Numbers.{big_number-reads_back}
use Rattle.stun_types_integrity.specs.Write.Adding.{attr_of}
use Rattle.stun_types_integrity.specs.Write.ValueReading.{value_refusal}
use Rattle.stun_types_integrity.proofs.Write.Values.{value_is_accepted}

-- Encoding the number decoded from four bytes gives these bytes.
pub bytes_again : (bytes : List ℕ) (n : ℕ) → length bytes ≡ 4 → ((k : ℕ) → slice_index bytes k < 256) → n ≡ big_number 4 bytes → big_bytes 4 n ≡ bytes
bytes_again bytes n four small decoded = be_bytes_4 bytes n four small (omega arith)

-- Decoding the bytes of a number gives the number.
number_again : (n : ℕ) → n < 2 ^ 32 → big_number 4 (big_bytes 4 n) ≡ n
number_again n small = big_number-reads_back 4 n [] small

-- Two numbers with the same bytes are equal.
pub same_number : (m n : ℕ) → m < 2 ^ 32 → n < 2 ^ 32 → big_bytes 4 m ≡ big_bytes 4 n → m ≡ n
same_number m n m_small n_small h =
    sym (number_again m m_small) ∙ ap (big_number 4) h ∙ number_again n n_small

-- Reading does not reject the four bytes of a number.
pub number_is_accepted : (kind n : ℕ) → value_refusal kind 4 4 (attr_of kind (big_bytes 4 n)) ≡ None
number_is_accepted kind n = value_is_accepted kind 4 4 (big_bytes 4 n) (omega arith) (omega arith)

-- A written number is accepted and is read back.
pub ruleset numbers = (number_is_accepted, same_number)
