-- The text of a message is decoded as that message.
use Rattle.std.proofs.Common.{◌≡◌, ◌⊎◌, ℕ, ◌+◌, ◌^◌, ◌<◌, ◌≤◌, true, false, List, [], ◌∷◌, ◌++◌, length, take, drop, None, refl, sym, ap, subst, ◌∙◌, append_assoc, arith, inl, inr}
use Rattle.std.specs.Prelude.{sum_by}
use Rattle.std.specs.List.{AllByRecursion}
use Rattle.std.proofs.lemmas.Bool.{cases_Bool, le-ltb, ne_eqb}
use Rattle.std.proofs.lemmas.List.{length-append, take_at, drop_at}
use Rattle.std.proofs.lemmas.List.Sums.{sum_by-cons}
use Rattle.byteorder.specs.Endian.{big_bytes}
use Rattle.byteorder.specs.Numbers.{big_number-reads_back}
use Rattle.stun_types_wire.specs.Attributes.{Attr, attr_size, attr_at, kind_at, length_at, size_at, padded, is_whole, numbered}
use Rattle.stun_types_wire.specs.Shape.{rank, may_follow, visible_after, after_visible, visible_rank, last_rank, IsShape, kinds_of}
use Rattle.stun_types_wire.specs.Grammar.{header_refusal, length_refusal, fingerprint_refusal, rest_refusal, body_refusal, refusal, visible, number_at}
use Rattle.stun_types_wire.specs.Registry.{cookie}
use Rattle.stun_types_wire.specs.Text.{header_text, padded_text, Part, part_text, parts_text, attributes_of, FitsPart, LeavesShape, IsTextOf}
use Rattle.stun_types_wire.proofs.Headers.{header_head}
use Rattle.stun_types_wire.specs.Fingerprinted.{AreRightFingerprints}
use Rattle.stun_types_wire.specs.MessageReading.{IsReadAs}
use Rattle.stun_types_wire.proofs.Fingerprints.{not_refused}
use Rattle.stun_types_wire.proofs.Whole.{whole_from, not_whole}
use Rattle.stun_types_wire.proofs.Scan.{visible_step, visible_short, visible_stops}
use Rattle.stun_types_wire.proofs.Longest.{Follows, shape_follows, follows_shape}

-- ---- one attribute with its padding

length-part_text : (part : Part) → FitsPart part → length (part_text part) ≡ attr_size part.attribute
unfolding padded_text
length-part_text part h = omega (arith, length-append part.attribute.value part.padding, h.padding)

kind_again : (part : Part) (rest : List ℕ) → FitsPart part → kind_at (part_text part ++ rest) ≡ part.attribute.kind
unfolding padded_text
kind_again part rest h =
    let a = part.attribute in
    big_number-reads_back 2 a.kind ((big_bytes 2 (length a.value) ++ a.value ++ part.padding) ++ rest) h.attribute.kind

length_again : (part : Part) (rest : List ℕ) → FitsPart part → length_at (part_text part ++ rest) ≡ length part.attribute.value
unfolding padded_text
length_again part rest h =
    let a = part.attribute in
    big_number-reads_back 2 (length a.value) ((a.value ++ part.padding) ++ rest) h.attribute.value

value_again : (part : Part) (rest : List ℕ) → take (length part.attribute.value) (drop 4 (part_text part ++ rest)) ≡ part.attribute.value
unfolding padded_text
value_again part rest =
    let a = part.attribute in
    rw (append_assoc a.value part.padding rest) (take_at a.value (part.padding ++ rest) (length a.value) refl)

size_again : (part : Part) (rest : List ℕ) → FitsPart part → size_at (part_text part ++ rest) ≡ length (part_text part)
size_again part rest h = ap (λ n. 4 + padded n) (length_again part rest h) ∙ sym (length-part_text part h)

whole_again : (part : Part) (rest : List ℕ) → FitsPart part → is_whole (part_text part ++ rest) ≡ true
whole_again part rest h =
    let size = size_again part rest h in
    let both = length-append (part_text part) rest in
    let own = length-part_text part h in
    whole_from (part_text part ++ rest) (omega arith) (omega arith)

abbrev attr_of : ℕ → List ℕ → Attr
attr_of k v = record { kind = k; value = v }

attr_again : (part : Part) (rest : List ℕ) → FitsPart part → attr_at (part_text part ++ rest) ≡ part.attribute
attr_again part rest h =
    let bytes = part_text part ++ rest in
    let v : take (length_at bytes) (drop 4 bytes) ≡ part.attribute.value = ap (λ n. take n (drop 4 bytes)) (length_again part rest h) ∙ value_again part rest in
    ap (λ n. attr_of n (take (length_at bytes) (drop 4 bytes))) (kind_again part rest h) ∙ ap (λ (l : List ℕ). attr_of part.attribute.kind l) v

drop_again : (part : Part) (rest : List ℕ) → FitsPart part → drop (size_at (part_text part ++ rest)) (part_text part ++ rest) ≡ rest
drop_again part rest h = drop_at (part_text part) rest (size_at (part_text part ++ rest)) (sym (size_again part rest h))

-- ---- all of them

-- After an attribute of this rank the shape ends: nothing follows, or at least four bytes that begin with a
-- type that may not follow.
abbrev pub Ended : ℕ → List ℕ → Type 0
Ended before following = (following ≡ []) ⊎ ((4 ≤ length following) × (may_follow before (rank (kind_at following)) ≡ false))

nothing_visible : (before : ℕ) (following : List ℕ) → Ended before following → visible_after before following ≡ []
nothing_visible before following (inl none) = visible_short before following (not_whole following (inl (rw none (omega arith))))
nothing_visible before following (inr more) = visible_stops before following more.1

-- The text of the parts and the bytes after them, regrouped to begin with the text of the first part.
next_text : (part : Part) (parts : List Part) (following : List ℕ) → parts_text (part ∷ parts) ++ following ≡ part_text part ++ (parts_text parts ++ following)
unfolding parts_text
next_text part parts following = append_assoc (part_text part) (parts_text parts) following

pub visible_again : (before : ℕ) (parts : List Part) (following : List ℕ) → AllByRecursion FitsPart parts → Follows before (kinds_of (attributes_of parts)) → Ended (last_rank before (attributes_of parts)) following
    → visible_after before (parts_text parts ++ following) ≡ attributes_of parts
unfolding last_rank
visible_again before [] following h f e = unfold parts_text in nothing_visible before following e
visible_again before (part ∷ parts) following h f e =
    let a = part.attribute in
    let rest = parts_text parts ++ following in
    let bytes = part_text part ++ rest in
    let follows : may_follow before (rank (kind_at bytes)) ≡ true = ap (λ k. may_follow before (rank k)) (kind_again part rest h.0) ∙ f.0 in
    let later : visible_after (rank (kind_at bytes)) (drop (size_at bytes) bytes) ≡ attributes_of parts =
    ap (λ k. visible_after (rank k) (drop (size_at bytes) bytes)) (kind_again part rest h.0) ∙ ap (λ (l : List ℕ). visible_after (rank a.kind) l) (drop_again part rest h.0) ∙ visible_again (rank a.kind) parts following h.1 f.1 e in
    ap (λ (l : List ℕ). visible_after before l) (next_text part parts following) ∙ visible_step before bytes (whole_again part rest h.0) follows
    ∙ ap (λ (b : Attr). b ∷ visible_after (rank (kind_at bytes)) (drop (size_at bytes) bytes)) (attr_again part rest h.0) ∙ ap (λ (l : List Attr). a ∷ l) later

length-parts_text : (parts : List Part) → AllByRecursion FitsPart parts → length (parts_text parts) ≡ sum_by attr_size (attributes_of parts)
unfolding parts_text
length-parts_text [] h = refl
length-parts_text (part ∷ parts) h =
    let own = length-part_text part h.0 in
    let later = length-parts_text parts h.1 in
    let both = length-append (part_text part) (parts_text parts) in
    omega (arith, sum_by-cons attr_size part.attribute (attributes_of parts))

pub after_again : (parts : List Part) (following : List ℕ) → AllByRecursion FitsPart parts → visible_after 0 (parts_text parts ++ following) ≡ attributes_of parts → after_visible 0 (parts_text parts ++ following) ≡ following
unfolding after_visible
after_again parts following h shows =
    ap (λ (l : List Attr). drop (sum_by attr_size l) (parts_text parts ++ following)) shows ∙ drop_at (parts_text parts) following (sum_by attr_size (attributes_of parts)) (length-parts_text parts h)

-- ---- where the shape is left

follows_more : (before : ℕ) (all : List Attr) (kind : ℕ) → Follows before (kinds_of all) → may_follow (last_rank before all) (rank kind) ≡ true → Follows before (kinds_of all ++ kind ∷ [])
unfolding last_rank
follows_more before [] kind f h = (h, tt)
follows_more before (a ∷ all) kind f h = (f.0, follows_more (rank a.kind) all kind f.1 h)

follows_last : (before : ℕ) (all : List Attr) (kind : ℕ) → Follows before (kinds_of all ++ kind ∷ []) → may_follow (last_rank before all) (rank kind) ≡ true
unfolding last_rank
follows_last before [] kind f = f.0
follows_last before (a ∷ all) kind f = follows_last (rank a.kind) all kind f.1

pub ended_by : (all : List Attr) (following : List ℕ) → IsShape (kinds_of all) → (following ≡ []) ⊎ LeavesShape (kinds_of all) following → Ended (last_rank 0 all) following
ended_by all following shape (inl none) = inl none
ended_by all following shape (inr leaves) =
    inr (
      leaves.four,
      elim (cases_Bool (may_follow (last_rank 0 all) (rank (kind_at following)))) [
        | inl h ↦ absurd (leaves.leaves (follows_shape (kinds_of all ++ kind_at following ∷ []) (follows_more 0 all (kind_at following) (shape_follows (kinds_of all) shape) h)))
        | inr h ↦ h
      ],
    )

pub leaves_by : (all : List Attr) (following : List ℕ) → Ended (last_rank 0 all) following → (following ≡ []) ⊎ LeavesShape (kinds_of all) following
leaves_by all following (inl none) = inl none
leaves_by all following (inr more) = inr (record { four = more.0; leaves = λ shape. absurd (let h = follows_last 0 all (kind_at following) (shape_follows (kinds_of all ++ kind_at following ∷ []) shape) in let n = more.1 in cc) })

-- ---- the whole message

header_drop : (kind len number : ℕ) (body : List ℕ) → drop 20 (header_text kind len number ++ body) ≡ body
unfolding header_text
header_drop kind len number body = refl

header_size : (kind len number : ℕ) (body : List ℕ) → length (header_text kind len number ++ body) ≡ 20 + length body
unfolding header_text
header_size kind len number body = omega arith

header_kind : (kind len number : ℕ) (body : List ℕ) → kind < 2 ^ 14 → kind_at (header_text kind len number ++ body) ≡ kind
unfolding header_text
header_kind kind len number body h = big_number-reads_back 2 kind ((big_bytes 2 len ++ cookie ++ big_bytes 12 number) ++ body) (omega arith)

header_length : (kind len number : ℕ) (body : List ℕ) → len < 2 ^ 16 → length_at (header_text kind len number ++ body) ≡ len
unfolding header_text
header_length kind len number body h = big_number-reads_back 2 len ((cookie ++ big_bytes 12 number) ++ body) h

header_number : (kind len number : ℕ) (body : List ℕ) → number < 2 ^ 96 → number_at (header_text kind len number ++ body) ≡ number
unfolding header_text number_at
header_number kind len number body h = big_number-reads_back 12 number body h

length_fine : (kind number : ℕ) (body : List ℕ) → length body < 2 ^ 16 → length_refusal (header_text kind (length body) number ++ body) ≡ None
unfolding length_refusal
length_fine kind number body h =
    let at = header_length kind (length body) number body h in
    let size = header_size kind (length body) number body in
    let all = header_text kind (length body) number ++ body in
    rw (le-ltb (length all) (20 + length_at all) (omega arith), le-ltb (20 + length_at all) (length all) (omega arith)) refl

rest_fine : (before : ℕ) (following : List ℕ) → Ended before following → rest_refusal before following ≡ None
unfolding rest_refusal
rest_fine before following (inl none) = rw none refl
rest_fine before following (inr more) = rw (ne_eqb (length following) 0 (λ e. let four = more.0 in omega arith), le-ltb (length following) 4 more.0, more.1) refl

pub text_read : (kind number : ℕ) (all : List Attr) (bytes : List ℕ) → IsTextOf kind number all bytes → AreRightFingerprints bytes (numbered 20 all) → IsReadAs kind number all bytes
unfolding refusal visible body_refusal visible_rank
text_read kind number all bytes h right =
    let body = parts_text h.parts ++ h.following in
    let follows : Follows 0 (kinds_of (attributes_of h.parts)) = subst (λ (l : List Attr). Follows 0 (kinds_of l)) (sym h.shows) (shape_follows (kinds_of all) h.shape) in
    let ended : Ended (last_rank 0 (attributes_of h.parts)) h.following = subst (λ (l : List Attr). Ended (last_rank 0 l) h.following) (sym h.shows) (ended_by all h.following h.shape h.ended) in
    let shows = visible_again 0 h.parts h.following h.each follows ended in
    let following = after_again h.parts h.following h.each shows in
    let header_fine : header_refusal bytes ≡ None = ap header_refusal h.text ∙ header_head kind (length body) number body h.kind_fits in
    let size_fine : length_refusal bytes ≡ None = ap length_refusal h.text ∙ length_fine kind number body h.length_fits in
    let body_is : drop 20 bytes ≡ body = ap (drop 20) h.text ∙ header_drop kind (length body) number body in
    let visible_is : visible_after 0 (drop 20 bytes) ≡ attributes_of h.parts = ap (visible_after 0) body_is ∙ shows in
    let right_fine : fingerprint_refusal bytes (numbered 20 (visible_after 0 (drop 20 bytes))) ≡ None = ap (λ (l : List Attr). fingerprint_refusal bytes (numbered 20 l)) (visible_is ∙ h.shows) ∙ not_refused bytes (numbered 20 all) right in
    let after_is : after_visible 0 (drop 20 bytes) ≡ h.following = ap (after_visible 0) body_is ∙ following in
    record {
      message = rw (header_fine, size_fine, right_fine, visible_is, after_is) (rest_fine (last_rank 0 (attributes_of h.parts)) h.following ended);
      kind = ap kind_at h.text ∙ header_kind kind (length body) number body h.kind_fits;
      number = ap number_at h.text ∙ header_number kind (length body) number body h.number_fits;
      shows = visible_is ∙ h.shows;
    }
