-- Numbers of 32 and of 64 bits, and their bytes.
use Rattle.std.proofs.Common.{◌≡◌, ℕ, ◌^◌, ◌<◌, List, [], length, slice_index, None, sym, ap, ◌∙◌, arith}
use Rattle.std.proofs.lemmas.Nat.{be_bytes_4, be_bytes_8}
use Rattle.byteorder.specs.Endian.{big_bytes, big_number}
use Rattle.byteorder.specs.Numbers.{big_number-reads_back}
use Rattle.stun_types_integrity.specs.Write.Adding.{attr_of}
use Rattle.stun_types_integrity.specs.Write.ValueReading.{value_refusal}
use Rattle.stun_types_integrity.proofs.Write.Values.{value_is_accepted}

-- Encoding the number decoded from four bytes gives these bytes.
pub bytes_again_4 : (bytes : List ℕ) (n : ℕ) → length bytes ≡ 4 → ((k : ℕ) → slice_index bytes k < 256) → n ≡ big_number 4 bytes → big_bytes 4 n ≡ bytes
bytes_again_4 bytes n four small decoded = be_bytes_4 bytes n four small (omega arith)

-- Decoding the four bytes of a number gives the number.
number_again_4 : (n : ℕ) → n < 2 ^ 32 → big_number 4 (big_bytes 4 n) ≡ n
number_again_4 n small = big_number-reads_back 4 n [] small

-- Two numbers with the same four bytes are equal.
pub same_number_4 : (m n : ℕ) → m < 2 ^ 32 → n < 2 ^ 32 → big_bytes 4 m ≡ big_bytes 4 n → m ≡ n
same_number_4 m n m_small n_small h =
    sym (number_again_4 m m_small) ∙ ap (big_number 4) h ∙ number_again_4 n n_small

-- Reading does not reject the four bytes of a number.
pub number_is_accepted_4 : (kind n : ℕ) → value_refusal kind 4 4 (attr_of kind (big_bytes 4 n)) ≡ None
number_is_accepted_4 kind n = value_is_accepted kind 4 4 (big_bytes 4 n) (omega arith) (omega arith)

-- A written number of four bytes is accepted and is read back.
pub ruleset numbers_4 = (number_is_accepted_4, same_number_4)

-- Encoding the number decoded from eight bytes gives these bytes.
pub bytes_again_8 : (bytes : List ℕ) (n : ℕ) → length bytes ≡ 8 → ((k : ℕ) → slice_index bytes k < 256) → n ≡ big_number 8 bytes → big_bytes 8 n ≡ bytes
bytes_again_8 bytes n eight small decoded = be_bytes_8 bytes n eight small (omega arith)

-- Decoding the eight bytes of a number gives the number.
number_again_8 : (n : ℕ) → n < 2 ^ 64 → big_number 8 (big_bytes 8 n) ≡ n
number_again_8 n small = big_number-reads_back 8 n [] small

-- Two numbers with the same eight bytes are equal.
pub same_number_8 : (m n : ℕ) → m < 2 ^ 64 → n < 2 ^ 64 → big_bytes 8 m ≡ big_bytes 8 n → m ≡ n
same_number_8 m n m_small n_small h =
    sym (number_again_8 m m_small) ∙ ap (big_number 8) h ∙ number_again_8 n n_small

-- Reading does not reject the eight bytes of a number.
pub number_is_accepted_8 : (kind n : ℕ) → value_refusal kind 8 8 (attr_of kind (big_bytes 8 n)) ≡ None
number_is_accepted_8 kind n = value_is_accepted kind 8 8 (big_bytes 8 n) (omega arith) (omega arith)

-- A written number of eight bytes is accepted and is read back.
pub ruleset numbers_8 = (number_is_accepted_8, same_number_8)
