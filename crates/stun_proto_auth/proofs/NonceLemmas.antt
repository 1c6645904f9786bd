-- Lemmas on the text of a nonce.
use Rattle.std.proofs.Common.{◌≡◌, ℕ, ◌+◌, ◌<◌, ◌≤◌, Bool, true, false, List, length, take, nat_lt, drop, nat_eq, slice_index, sym, ap, ◌∙◌, refl, arith, min, if◌then◌else◌}
use Rattle.std.specs.Cmp.Lexicographic.{pointwise}
use Rattle.std.specs.List.{list_all}
use Rattle.std.proofs.lemmas.List.{length-map}
use Rattle.std.proofs.lemmas.List.Folds.{list_all_at}
use Rattle.std.proofs.lemmas.Grind.{common_steps}
use Rattle.base64.specs.GeneralPurpose.{decode_of}
use Rattle.base64.specs.Engines.{standard}
use Rattle.stun_types_message.specs.Wire.Registry.{longest_text}
use Rattle.stun_proto_auth.specs.Nonce.{nonce_character, nonce_cookie, nonce_alphabet, features_decoded, features_in, no_features, nonce_text}
use Rattle.base64.specs.Rfc4648.{encode_symbols}
use Rattle.base64.specs.Decode.{scan_steps, groups_error, groups_bytes}
use Rattle.stun_proto_auth.specs.declared.nonce.NonceFeatures.{NonceFeatures}
use Rattle.stun_proto_auth.specs.declared.nonce.TheConstants.{NONCE_WORDS}

-- A character of the alphabet is an ASCII character.
pub nonce_alphabet-ascii : (index : ℕ) → index < 62 → slice_index nonce_alphabet index < 128
nonce_alphabet-ascii index below =
    let bounded : list_all (λ c. nat_lt c 128) nonce_alphabet ≡ true = refl in
    elim (nat_lt (slice_index nonce_alphabet index) 128) as (λ b. nat_lt (slice_index nonce_alphabet index) 128 ≡ b → slice_index nonce_alphabet index < 128) [
      | true ↦ λ is. grind (arith, is)
      | false ↦ λ is. absurd (let no = list_all_at (λ c. nat_lt c 128) nonce_alphabet index 0 below is in Prim.cc (sym bounded ∙ no))
    ] refl

-- In a nonce that begins with the cookie, the features are those in the four characters after it.
pub features_in-cookie : (nonce text cookie after : List ℕ) → text ≡ nonce → cookie ≡ nonce_cookie → pointwise nat_eq (take (length cookie) text) cookie ≡ true
    → after ≡ drop (length cookie) text → features_in nonce ≡ features_decoded (decode_of standard (take (min (length after) 4) after))
features_in-cookie nonce text cookie after whole is starts following =
    let begins : pointwise nat_eq (take 9 nonce) nonce_cookie ≡ true =
    (λ i. pointwise nat_eq (take (length (sym is i)) (sym whole i)) (sym is i)) ∙ starts in
    let characters : take (min (length after) 4) after ≡ take 4 (drop 9 nonce) =
    grind (arith, common_steps) ∙ ap (take 4) (following ∙ (λ i. drop (length (is i)) (whole i))) in
    ap (λ b. if b then features_decoded (decode_of standard (take 4 (drop 9 nonce))) else no_features) begins
    ∙ ap (λ cs. features_decoded (decode_of standard cs)) (sym characters)

-- A nonce announces the features with which it was written, by cases of the two features.
features_in-by_cases : (algorithms anonymous : Bool) (words : List ℕ) → let features : NonceFeatures = record { password_algorithms = algorithms; anonymous_username = anonymous } in features_in (nonce_text features words) ≡ features
unfolding encode_symbols scan_steps groups_error groups_bytes
features_in-by_cases true true words = refl
features_in-by_cases true false words = refl
features_in-by_cases false true words = refl
features_in-by_cases false false words = refl

-- A nonce announces the features with which it was written.
pub features_in-nonce_text : (features : NonceFeatures) (words : List ℕ) → features_in (nonce_text features words) ≡ features
features_in-nonce_text features words = features_in-by_cases features.password_algorithms features.anonymous_username words

-- ---- the length of a nonce

-- The length of a nonce: the cookie, four characters, and one for each word; by cases of the features.
nonce_text-length_by_cases : (algorithms anonymous : Bool) (words : List ℕ) → let features : NonceFeatures = record { password_algorithms = algorithms; anonymous_username = anonymous } in length (nonce_text features words) ≡ 13 + length words
unfolding encode_symbols
nonce_text-length_by_cases true true words = omega (arith, length-map words nonce_character)
nonce_text-length_by_cases true false words = omega (arith, length-map words nonce_character)
nonce_text-length_by_cases false true words = omega (arith, length-map words nonce_character)
nonce_text-length_by_cases false false words = omega (arith, length-map words nonce_character)

-- A nonce of at most sixteen words is within the limit of a NONCE.
pub nonce_text-short : (features : NonceFeatures) (words text : List ℕ) → text ≡ nonce_text features words → length words ≤ NONCE_WORDS → length text ≤ longest_text
nonce_text-short features words text is few =
    let all = nonce_text-length_by_cases features.password_algorithms features.anonymous_username words in
    rw is (omega (arith, all, few))
